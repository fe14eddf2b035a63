pub mod Braces
pub mod Lines
pub mod Names
pub mod View
