pub mod LimitLemmas
mod Rows
mod SubstitutionLemmas
mod TurnLemmas
