pub mod Numbers
pub mod Dropped
pub mod Added
pub mod Kept
pub mod Sound
