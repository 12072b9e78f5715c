pub mod Opening
pub mod Sending
pub mod Certifying
pub mod Converted
pub mod Copying
pub mod Dropping
pub mod Salvaging
