pub mod Clean
pub mod Declared
pub mod Jobs
pub mod Kept
pub mod Repeated
pub mod Same
pub mod Tested
pub mod Turns
