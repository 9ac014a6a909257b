pub mod Undo
pub mod Buffers
pub mod Memory
pub mod OldValues
pub mod Savepoints
pub mod Frames
