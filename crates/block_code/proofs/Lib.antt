pub mod Grows
pub mod Emits
pub mod Procedures
