pub mod AskedLemmas
pub mod HeadLemmas
pub mod PutLemmas
pub mod TextLemmas
