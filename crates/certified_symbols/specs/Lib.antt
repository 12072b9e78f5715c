pub mod RepairSymbols
pub mod Differences
pub mod CertifiedSymbol
pub mod FirstWrong
