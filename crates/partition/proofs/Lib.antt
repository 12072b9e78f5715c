pub mod Laws
pub mod Faults
pub mod FaultOrder
pub mod Vectors
pub mod Kept
