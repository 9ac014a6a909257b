pub mod Passed
pub mod States
pub mod Found
pub mod RunSteps
