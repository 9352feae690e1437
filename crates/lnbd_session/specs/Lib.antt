pub mod Codes
pub mod Issues
pub mod Keeps
pub mod Tells
pub mod When
