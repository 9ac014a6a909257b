pub mod Outcome
pub mod Ran
pub mod Phases
