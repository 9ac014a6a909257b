pub mod Trace
pub mod Report
pub mod Ending
pub mod Examples
