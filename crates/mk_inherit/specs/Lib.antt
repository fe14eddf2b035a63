pub mod Flags
pub mod Passed
