pub mod Positions
pub mod Ranges
pub mod Spots
pub mod Pages
pub mod Lists
pub mod Laws
