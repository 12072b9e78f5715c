pub mod Standing
pub mod Indexed
pub mod Blocks
pub mod Files
pub mod Compared
pub mod Checked
pub mod Answers
pub mod Shortness
