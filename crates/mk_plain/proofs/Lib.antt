pub mod NameLemmas
pub mod PlainLemmas
pub mod WalkLemmas
