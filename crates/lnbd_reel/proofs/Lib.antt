pub mod ReelLemmas
pub mod LayLemmas
pub mod LaidLemmas
pub mod ShownLemmas
