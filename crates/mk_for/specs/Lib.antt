pub mod Substitution
pub mod Turns
