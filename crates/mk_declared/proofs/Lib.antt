pub mod PresentLemmas
pub mod RecordedLemmas
pub mod TestLemmas
