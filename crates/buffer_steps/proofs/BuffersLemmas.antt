pub mod Own
pub mod Held
