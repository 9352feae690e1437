pub mod LostLemmas
pub mod TalkLemmas
pub mod EndLemmas
pub mod MadeLemmas
pub mod LayLemmas
pub mod AskLemmas
pub mod InquireLemmas
pub mod LearnLemmas
pub mod DiscussLemmas
pub mod MapEndLemmas
pub mod PartLemmas
pub mod ActLemmas
pub mod EachLemmas
pub mod ListLemmas
mod TakeLemmas
mod VainLemmas
pub mod WentLemmas
pub mod LivesLemmas
mod AskedLemmas
mod ConductLemmas
mod MapConduct
