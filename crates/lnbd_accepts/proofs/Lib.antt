pub mod Payloads
pub mod Replies
pub mod Talks
pub mod Cuts
pub mod Given
pub mod Filed
