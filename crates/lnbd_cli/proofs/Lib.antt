mod BesideLemmas
mod InputLemmas
mod CallLemmas
mod CopyLemmas
mod DumpLemmas
mod DuplicateLemmas
mod EndLemmas
mod HeardLemmas
mod InfoLemmas
mod ServeLemmas
mod ServingLemmas
mod ToolLemmas
pub mod TrialLemmas
mod FilingLemmas
