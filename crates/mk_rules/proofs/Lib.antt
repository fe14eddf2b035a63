pub mod EndLemmas
pub mod FoldLemmas
pub mod GatheredLemmas
pub mod KeepLemmas
pub mod ModeLemmas
