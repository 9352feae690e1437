pub mod Touches
pub mod Both
pub mod Parts
pub mod Grown
pub mod Laws
