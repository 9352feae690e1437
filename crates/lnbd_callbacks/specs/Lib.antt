pub mod Calls
pub mod Steps
pub mod Desk
pub mod Slot
pub mod Entries
pub mod Sound
pub mod Journal
