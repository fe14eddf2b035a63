pub mod EditedLemmas
