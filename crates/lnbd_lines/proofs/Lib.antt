pub mod NumberLemmas
pub mod CutLemmas
pub mod PartLemmas
pub mod HexLemmas
pub mod CommandLemmas
pub mod LineLemmas
pub mod ScriptLemmas
