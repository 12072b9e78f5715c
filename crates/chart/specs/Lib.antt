pub mod Columns
pub mod Counts
pub mod Scaled
pub mod Texts
