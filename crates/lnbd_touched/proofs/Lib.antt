pub mod TouchLemmas
pub mod PartLemmas
pub mod BothLemmas
pub mod GrownLemmas
