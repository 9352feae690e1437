pub mod Replies
pub mod Talks
pub mod Filed
pub mod Cuts
pub mod Given
