pub mod Notes
pub mod Crash
pub mod Sound
pub mod Shown
pub mod Laws
pub mod Examples
