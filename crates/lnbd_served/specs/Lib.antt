pub mod Grammars
pub mod Steps
pub mod Follows
pub mod Served
