pub mod Order
pub mod Calls
