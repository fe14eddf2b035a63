pub mod BelowLemmas
pub mod FileLemmas
mod JoinLemmas
mod LineLemmas
mod PartLemmas
pub mod RestLemmas
mod Rows
pub mod StepLemmas
pub mod TimeLemmas
