pub mod Bytes
pub mod Held
pub mod Parts
pub mod InFile
pub mod Places
pub mod Recalled
