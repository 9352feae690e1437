pub mod Chunks
pub mod Headed
pub mod Frames
pub mod Fronts
