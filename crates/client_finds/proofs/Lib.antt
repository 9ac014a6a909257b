pub mod Kept
pub mod Searched
pub mod Taken
pub mod Locked
pub mod Found
pub mod CurrentRecord
pub mod Buffers
