pub mod Slices
pub mod Blocks
pub mod Laws
pub mod Plans
pub mod Walks
