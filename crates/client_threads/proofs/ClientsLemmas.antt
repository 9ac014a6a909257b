pub mod Ended
pub mod InPhases
pub mod Ran
