pub mod LineLemmas
pub mod SaidLemmas
pub mod ZeroLemmas
pub mod EndLemmas
