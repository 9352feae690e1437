pub mod OrderLaws
pub mod LookupLaws
pub mod Parts
pub mod PlaceLaws
pub mod SameMap
pub mod KeyedLemmas
mod Example
