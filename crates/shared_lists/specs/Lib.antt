pub mod SharedLists
pub mod Totals
