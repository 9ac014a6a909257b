pub mod Alike
pub mod Rows
pub mod Held
