pub mod CleanRunLemmas
pub mod CompletenessLemmas
pub mod TrueRunLemmas
