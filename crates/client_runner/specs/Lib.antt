pub mod Meant
pub mod Served
pub mod Tasks
pub mod Levels
