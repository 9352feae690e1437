pub mod Stream
pub mod Fronts
pub mod Grammar
mod Example
