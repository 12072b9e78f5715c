pub mod Sizes
pub mod ColumnPlaces
pub mod RowAdding
pub mod SourceRows
