pub mod Comment
pub mod Faults
pub mod Lines
