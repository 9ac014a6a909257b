pub mod Coded
pub mod Unrefused
pub mod Works
