mod Lines
mod Names
pub mod Putting
mod Units
