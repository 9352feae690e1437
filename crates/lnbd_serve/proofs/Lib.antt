pub mod CalmLemmas
pub mod TurnLemmas
pub mod HallLemmas
pub mod ServeLemmas
pub mod PrintLemmas
