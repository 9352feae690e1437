pub mod Lively
pub mod Moving
pub mod Fair
pub mod Ending
pub mod Known
