pub mod Breach
pub mod Errors
pub mod Kind
pub mod Text
