pub mod HelloLemmas
pub mod Puts
pub mod Readings
