pub mod Columns
pub mod EncodedRows
pub mod InPasses
pub mod Sent
pub mod RoundRows
pub mod Places
pub mod AllValues
pub mod FirstRows
pub mod SessionReadings
pub mod SourcePlaces
mod Vectors
pub mod ObjectBlocks
pub mod CertificateRead
pub mod RoundPlaces
pub mod FrameOffsets
pub mod Replaced
pub mod FramesSent
pub mod Groups
