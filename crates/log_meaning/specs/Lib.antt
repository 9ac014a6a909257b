pub mod steps
pub mod Recovered
pub mod Bytes
pub mod Images
pub mod LogState
pub mod Logged
pub mod Examples
