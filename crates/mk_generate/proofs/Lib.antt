pub mod CleanLemmas
pub mod GenerateLemmas
pub mod InputLemmas
pub mod InsideLemmas
mod Rows
