mod AskLemmas
mod BlockLemmas
mod ClosingLemmas
mod FileLemmas
mod FitLemmas
mod IncludeLemmas
mod LineLemmas
mod LoopLemmas
pub mod OutcomeLemmas
mod PlaceLemmas
mod Rows
mod RunLemmas
mod SkipLemmas
mod Small
mod SpelledLemmas
mod TieLemmas
mod TurnBodyLemmas
