pub mod Arguments
pub mod Directives
pub mod Words
