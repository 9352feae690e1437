pub mod LiveLemmas
pub mod SoundLemmas
