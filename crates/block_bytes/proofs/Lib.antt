pub mod Held
pub mod Padding
pub mod BlocksInFile
pub mod ObjectParts
