pub mod Steady
pub mod Decides
pub mod Payloads
pub mod Whole
mod Example
