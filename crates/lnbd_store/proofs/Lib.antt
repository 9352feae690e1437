pub mod ByteLemmas
pub mod PlaceLemmas
pub mod StoreLemmas
pub mod ToldLemmas
