pub mod Reply
pub mod Settled
