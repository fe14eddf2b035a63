pub mod Breaches
pub mod Held
pub mod Lines
pub mod Paths
pub mod Reaches
pub mod Rows
pub mod Unbreached
pub mod Walks
