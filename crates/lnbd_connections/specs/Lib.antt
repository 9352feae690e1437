pub mod Way
pub mod Steps
pub mod Alike
pub mod Asks
pub mod Few
pub mod Bound
pub mod Unready
pub mod Uses
