mod ColumnLemmas
pub mod Example
mod JsonLemmas
mod ListingLemmas
pub mod MapLemmas
mod PushLemmas
