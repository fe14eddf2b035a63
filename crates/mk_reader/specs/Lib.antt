pub mod OnMaps
pub mod Results
pub mod Ties
