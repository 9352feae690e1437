pub mod Speaking
pub mod Driven
pub mod Laws
pub mod Little
