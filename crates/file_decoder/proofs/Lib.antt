pub mod ReadAgain
pub mod Rooms
pub mod FileFaults
pub mod FirstCarrier
pub mod Indexed
pub mod FromFile
mod Placed
