pub mod ExplainedLemmas
pub mod JudgedLemmas
pub mod RunLemmas
pub mod ShownLemmas
pub mod TaskLemmas
