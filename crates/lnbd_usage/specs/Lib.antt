pub mod Links
pub mod Vain
pub mod Pauses
pub mod OneLink
