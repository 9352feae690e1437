pub mod Pieces
pub mod Queue
pub mod Laws
