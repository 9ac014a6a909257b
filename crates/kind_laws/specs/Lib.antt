pub mod bound_kinds
pub mod schemas
pub mod Placed
pub mod Reached
pub mod Evaluated
pub mod Operations
pub mod Texts
