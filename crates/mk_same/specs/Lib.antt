pub mod Answered
pub mod Judged
pub mod Shown
pub mod ShownRuns
