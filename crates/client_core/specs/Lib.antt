pub mod NextStep
pub mod ClientView
pub mod Work
pub mod Refines
pub mod Begins
