pub mod Ranges
pub mod Reel
pub mod Laying
pub mod Said
