pub mod Disks
pub mod Works
