pub mod Map
pub mod Json
pub mod MapJson
pub mod Predicates
pub mod Listing
pub mod ListingJson
pub mod Laws
