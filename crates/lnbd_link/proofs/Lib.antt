pub mod KeptLemmas
pub mod TiedLemmas
pub mod LeftLemmas
pub mod Parts
pub mod SourceLemmas
pub mod Openings
pub mod TrafficLemmas
