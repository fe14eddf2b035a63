pub mod Counts
pub mod Generated
pub mod Input
pub mod Inside
