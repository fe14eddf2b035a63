pub mod Deeds
pub mod Logs
pub mod Readings
pub mod Requests
pub mod Words
