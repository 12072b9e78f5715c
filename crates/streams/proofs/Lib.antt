pub mod Fills
pub mod Results
pub mod Writes
pub mod AtOffsets
