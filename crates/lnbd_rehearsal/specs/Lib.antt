pub mod Sums
pub mod Rehearsed
pub mod Carrying
