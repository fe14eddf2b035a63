pub mod Files
pub mod Sound
