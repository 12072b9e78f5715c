pub mod InFront
mod BoxParts
mod HeapParts
mod Twins
