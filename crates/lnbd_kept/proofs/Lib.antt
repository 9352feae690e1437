pub mod KeptLemmas
pub mod FiledLemmas
