pub mod Stops
pub mod State
pub mod Calls
