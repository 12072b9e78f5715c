mod Pictured
mod CheckedFiles
mod TwinnedFiles
