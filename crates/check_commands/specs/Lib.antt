pub mod Drawing
pub mod CheckFaults
pub mod Checks
pub mod Summing
pub mod TwinsTold
