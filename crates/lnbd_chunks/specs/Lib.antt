pub mod Chunk
pub mod Reply
pub mod Whole
pub mod Laws
