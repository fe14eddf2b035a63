pub mod ChainLemmas
pub mod LongLemmas
pub mod OrderLemmas
pub mod PieceLemmas
pub mod ResultLemmas
mod Rows
pub mod SearchLemmas
pub mod StepLemmas
pub mod TextLemmas
