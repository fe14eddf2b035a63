pub mod Entries
pub mod Scopes
pub mod Tables
