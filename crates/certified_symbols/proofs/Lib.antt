pub mod RepairSymbols
