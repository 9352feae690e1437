pub mod RetoldLemmas
pub mod StandingLemmas
pub mod InboundLemmas
