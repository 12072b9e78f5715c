mod Found
mod Pieces
