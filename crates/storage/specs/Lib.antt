pub mod faults
pub mod Slots
pub mod Disk
