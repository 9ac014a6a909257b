pub mod units
pub mod halts
pub mod levels
pub mod locks
pub mod operations
pub mod pending
pub mod requests
