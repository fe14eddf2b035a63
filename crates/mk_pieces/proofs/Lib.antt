pub mod LimitLemmas
pub mod PieceLemmas
pub mod RefusalLemmas
pub mod ReplaceLemmas
pub mod SearchLemmas
