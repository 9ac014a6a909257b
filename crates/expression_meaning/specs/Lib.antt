pub mod Env
pub mod Operators
pub mod Functions
pub mod Evaluate
