pub mod Columns
pub mod Codes
pub mod CodesOf
