pub mod BreachLemmas
pub mod DeclaredLemmas
pub mod PathLemmas
pub mod RowLemmas
pub mod WalkLemmas
