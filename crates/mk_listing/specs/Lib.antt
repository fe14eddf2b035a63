pub mod Commands
pub mod Graphs
pub mod Lists
pub mod Looks
pub mod Texts
pub mod Timelines
