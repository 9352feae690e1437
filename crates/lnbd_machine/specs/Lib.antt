pub mod Machine
pub mod Now
pub mod Does
pub mod Laws
