pub mod Pieces
pub mod Faults
pub mod Outcome
pub mod Hearing
pub mod Facts
pub mod Laws
