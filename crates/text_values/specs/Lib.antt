pub mod TextValues
pub mod Examples
