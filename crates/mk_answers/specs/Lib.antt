pub mod Evaluations
pub mod OnFiles
pub mod Readings
