pub mod Changes
pub mod Faults
pub mod Laws
pub mod Lines
pub mod Pieces
pub mod Turns
pub mod Walks
