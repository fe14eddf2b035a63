pub mod Audited
pub mod Recorded
pub mod UpToDate
