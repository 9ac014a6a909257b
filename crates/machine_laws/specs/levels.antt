pub mod Reached
pub mod Flagged
