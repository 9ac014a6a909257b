pub mod writes
pub mod Values
pub mod Examples
