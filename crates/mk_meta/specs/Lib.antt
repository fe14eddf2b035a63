pub mod Jobs
pub mod Lawful
pub mod Laws
pub mod Reading
pub mod Texts
pub mod TrueHistory
pub mod Views
