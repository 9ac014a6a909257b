pub mod refusals
pub mod History
pub mod Databases
