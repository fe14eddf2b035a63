pub mod Answered
pub mod Faults
pub mod PlaceLaws
pub mod Places
