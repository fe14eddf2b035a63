pub mod DryRuns
pub mod Items
pub mod Parts
pub mod Progress
pub mod Reports
pub mod Runs
pub mod TrueRuns
