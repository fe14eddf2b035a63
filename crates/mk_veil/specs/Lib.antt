pub mod Held
pub mod Idle
pub mod Names
pub mod Records
pub mod Veiled
