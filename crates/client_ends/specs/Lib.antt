pub mod Insertions
pub mod Refreshes
pub mod Drops
pub mod Emptied
pub mod Closings
