pub mod Rows
pub mod Changes
pub mod Placing
pub mod Examples
