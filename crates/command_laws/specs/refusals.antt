pub mod Unrefused
pub mod Works
