pub mod Gains
pub mod Numbered
pub mod Stopping
pub mod Holding
pub mod Passing
mod HeldFrames
