pub mod Plans
pub mod Premises
pub mod Turned
pub mod CleanBuilds
pub mod Laws
