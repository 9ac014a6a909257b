pub mod Bank
pub mod Total
pub mod Examples
