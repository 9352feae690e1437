pub mod Driving
pub mod Said
pub mod Laws
pub mod Exports
