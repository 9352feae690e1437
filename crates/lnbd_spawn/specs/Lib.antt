pub mod Deeds
pub mod Spawned
