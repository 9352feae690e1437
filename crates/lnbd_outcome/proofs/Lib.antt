pub mod Contents
pub mod Standing
mod Example
