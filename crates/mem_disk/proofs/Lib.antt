pub mod Record
pub mod Moments
pub mod Crashes
pub mod Passing
