pub mod Pool
pub mod Region
