pub mod Ends
pub mod Hands
pub mod Levels
pub mod Own
pub mod Runs
pub mod Sends
pub mod Steps
