pub mod Copies
pub mod Programs
