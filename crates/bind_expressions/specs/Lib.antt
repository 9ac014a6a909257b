pub mod Expressions
pub mod Parts
pub mod WellKinded
pub mod Views
