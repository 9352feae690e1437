pub mod Calm
pub mod Guests
pub mod Halls
pub mod Steps
pub mod Rounds
pub mod Served
pub mod Printed
