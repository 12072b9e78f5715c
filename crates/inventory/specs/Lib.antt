pub mod Packets
pub mod Parts
pub mod Faults
pub mod Tally
pub mod Tallies
pub mod Tells
