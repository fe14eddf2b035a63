pub mod Assignments
pub mod Letters
pub mod Numbers
pub mod Options
pub mod Orders
pub mod Words
