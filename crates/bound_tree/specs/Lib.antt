pub mod Tree
pub mod Bound
