pub mod Claims
pub mod Kept
pub mod Parts
pub mod Tasks
pub mod Completions
pub mod Answers
pub mod Runs
