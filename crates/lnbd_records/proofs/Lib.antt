pub mod Basics
pub mod Examples
pub mod FrontLemmas
pub mod NumberLaws
pub mod PayloadLemmas
pub mod PrefixLemmas
pub mod ReplyLemmas
pub mod RequestLemmas
