pub mod Weights
pub mod Parts
pub mod Tasks
pub mod Completions
pub mod Runs
