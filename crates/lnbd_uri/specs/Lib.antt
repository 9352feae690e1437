pub mod Address
pub mod Fault
pub mod Parts
pub mod Spelling
pub mod Written
