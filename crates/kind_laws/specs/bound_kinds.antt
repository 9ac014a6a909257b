pub mod WellKinded
pub mod Kinds
pub mod Values
pub mod Examples
