pub mod Jobs
pub mod Metas
pub mod Progress
pub mod Scenes
