pub mod OpenLoops
pub mod Texts
pub mod Turns
