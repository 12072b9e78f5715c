mod Decoded
mod Showed
mod Followed
mod Delivered
mod Totalled
