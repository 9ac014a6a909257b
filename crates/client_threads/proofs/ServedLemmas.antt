pub mod Tasks
pub mod Vectors
