mod Pairs
mod Maps
mod Blocks
mod Steps
mod Told
mod Ftis
