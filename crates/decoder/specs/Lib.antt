pub mod Unsolvable
pub mod Sources
pub mod Promised
pub mod Objects
pub mod Written
pub mod Answered
pub mod Answers
