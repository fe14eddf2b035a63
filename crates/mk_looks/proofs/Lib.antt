mod ConditionRows
pub mod LookLemmas
pub mod NewerLemmas
mod Rows
pub mod SameLemmas
