pub mod Moved
pub mod Indexed
pub mod Started
