pub mod Shift
pub mod Waiting
pub mod Assembly
pub mod Steps
pub mod Laws
pub mod Placed
pub mod Told
