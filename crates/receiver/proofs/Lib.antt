pub mod Pending
pub mod Taken
mod Amount
mod Among
mod Noted
mod Told
mod Solving
mod Seen
mod Holding
mod Fed
mod Begun
mod Filed
