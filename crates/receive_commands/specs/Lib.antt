pub mod Decoding
pub mod Listening
pub mod Showing
pub mod Totalling
