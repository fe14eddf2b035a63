pub mod Present
pub mod Recorded
pub mod Testing
