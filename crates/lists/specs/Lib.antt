pub mod Bytes
pub mod Below
pub mod Selection
pub mod Places
