pub mod Turns
pub mod Places
