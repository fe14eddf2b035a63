pub mod CleanRuns
pub mod Completeness
pub mod Runs
pub mod TrueRuns
