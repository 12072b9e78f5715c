mod Making
mod Joins
mod Conversions
mod Dropped
mod Salvaged
mod Given
mod Unsent
