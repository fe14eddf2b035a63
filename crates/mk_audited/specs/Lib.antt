pub mod Audits
pub mod Runs
