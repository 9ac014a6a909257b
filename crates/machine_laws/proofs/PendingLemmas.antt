pub mod Pends
pub mod Places
pub mod Kept
pub mod Parts
pub mod Tasks
pub mod Completions
pub mod Answers
pub mod Runs
