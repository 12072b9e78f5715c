pub mod Files
pub mod World
pub mod Worlds
