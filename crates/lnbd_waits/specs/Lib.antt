pub mod Waits
pub mod Begun
