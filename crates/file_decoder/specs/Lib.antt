pub mod InFile
pub mod Indexing
pub mod IndexedIn
pub mod FileFaults
pub mod PlacesOf
pub mod ReadAgain
