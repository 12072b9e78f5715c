pub mod Packet
pub mod PacketFault
pub mod Reading
pub mod Computed
pub mod Layout
pub mod Views
pub mod Written
pub mod WrittenParts
