pub mod PartLemmas
pub mod PatternRows
pub mod ReadingLemmas
pub mod SetLemmas
pub mod StarLemmas
pub mod TestLemmas
