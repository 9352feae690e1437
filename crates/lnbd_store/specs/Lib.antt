pub mod Bytes
pub mod Shelf
pub mod Call
pub mod Answers
pub mod Effects
pub mod Log
pub mod Memory
