pub mod Schedule
pub mod Network
pub mod Plays
pub mod Log
pub mod Wires
pub mod Laws
