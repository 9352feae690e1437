pub mod TurnLemmas
pub mod StillLemmas
pub mod WaitLemmas
pub mod SpendLemmas
mod PartLemmas
