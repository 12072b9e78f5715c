pub mod Changes
pub mod Offsets
pub mod Pieces
pub mod Sinks
