pub mod ShiftLemmas
pub mod PartLemmas
pub mod BreachLemmas
pub mod FactLemmas
pub mod LawLemmas
pub mod PlaceLemmas
pub mod ToldLemmas
