pub mod Config
pub mod Code
pub mod Means
pub mod Steps
pub mod Machine
pub mod Written
pub mod Works
pub mod Flat
