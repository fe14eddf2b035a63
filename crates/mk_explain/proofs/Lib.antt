pub mod FileLemmas
mod LawLemmas
mod NameLemmas
mod Rows
mod TurnLemmas
