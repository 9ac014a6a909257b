pub mod Settled
pub mod Table
pub mod Requests
pub mod Paths
