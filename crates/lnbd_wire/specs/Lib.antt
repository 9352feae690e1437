pub mod Heads
pub mod Hello
