pub mod Assignments
pub mod Definitions
pub mod Runs
pub mod Shown
pub mod Streams
pub mod Views
