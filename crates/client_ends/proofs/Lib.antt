pub mod Moved
pub mod Dropped
pub mod Buffers
pub mod Entered
pub mod Closing
pub mod Undone
