pub mod Client
pub mod Options
pub mod Replies
pub mod Session
pub mod Seen
pub mod Views
