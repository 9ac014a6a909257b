pub mod Entries
pub mod Reads
pub mod Locks
pub mod Rights
