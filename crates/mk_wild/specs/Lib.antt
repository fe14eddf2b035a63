pub mod Names
pub mod Wild
