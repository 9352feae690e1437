pub mod Order
pub mod Standing
pub mod Sound
pub mod Placing
pub mod Changes
pub mod Removal
pub mod Writes
pub mod Firsts
