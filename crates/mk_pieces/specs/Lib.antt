pub mod Change
pub mod Letters
pub mod Limits
pub mod Pieces
pub mod Substitution
