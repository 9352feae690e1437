mod Bytes
mod Rows
mod One
mod Honesty
pub mod Calls
pub mod Sides
pub mod Early
pub mod Dealing
pub mod Match
pub mod Steps
pub mod Comes
pub mod Counting
pub mod Chain
pub mod Turns
pub mod Phases
pub mod Asks
pub mod Sending
pub mod Alive
pub mod ShownBy
pub mod Keeping
pub mod Haggling
pub mod Feeding
pub mod Fading
pub mod Writing
pub mod Orders
pub mod Doing
pub mod Acting
pub mod Ending
pub mod Plain
pub mod Driving
pub mod Exported
pub mod Staying
pub mod Wished
pub mod Naming
