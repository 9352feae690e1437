mod Example
pub mod Bytes
mod Rows
mod LiveRows
pub mod PartLaws
pub mod Agree
pub mod Cuts
pub mod Sums
pub mod Cookies
pub mod ByName
pub mod Steady
pub mod Flies
pub mod Weights
pub mod Freed
pub mod Live
pub mod Filled
pub mod Whole
