mod Worked
pub mod Saying
pub mod Driving
pub mod Little
