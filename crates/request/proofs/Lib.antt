pub mod Existing
pub mod Walks
pub mod Getters
pub mod NamedLines
pub mod Texts
mod PlaceWords
pub mod Reading
pub mod Rules
mod Worked
