mod AsNewLemmas
pub mod OodateLemmas
pub mod AskingLemmas
pub mod LookLemmas
pub mod NamedLemmas
pub mod NewerLemmas
pub mod PlanLemmas
pub mod PlanRows
pub mod TaskLemmas
pub mod ListLemmas
pub mod PlanLawLemmas
