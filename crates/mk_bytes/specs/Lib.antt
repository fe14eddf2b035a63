pub mod Agrees
pub mod Bytes
pub mod Lent
pub mod Numbers
pub mod Paths
pub mod Texts
pub mod Words
pub mod formers
