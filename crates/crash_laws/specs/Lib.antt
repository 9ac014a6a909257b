pub mod Disks
pub mod History
pub mod Calls
pub mod Births
pub mod Logs
