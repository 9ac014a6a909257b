pub mod Keeping
pub mod Calls
