pub mod OrderLemmas
pub mod WildLemmas
