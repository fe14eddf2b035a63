pub mod AgreesLemmas
pub mod NumberLemmas
mod NumberRows
pub mod PathLemmas
mod PathRows
pub mod PieceLemmas
pub mod RefusalLemmas
pub mod WordLemmas
