pub mod Parts
pub mod Lists
pub mod Changed
pub mod Doubt
