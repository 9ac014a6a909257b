pub mod Undo
pub mod Updates
pub mod Retry
pub mod Flags
pub mod Links
pub mod Examples
