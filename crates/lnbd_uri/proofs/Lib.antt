pub mod AnswerLemmas
pub mod FaultLemmas
pub mod ReadingLemmas
pub mod SpellingLemmas
