pub mod Schedule
pub mod Next
pub mod Counts
pub mod Least
pub mod Kept
