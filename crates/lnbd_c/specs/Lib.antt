pub mod Answers
pub mod Buffers
pub mod BufferSealing
pub mod Sealing
