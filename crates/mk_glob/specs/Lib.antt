pub mod Heads
pub mod Patterns
pub mod Reading
