pub mod Files
pub mod MemFiles
pub mod Out
pub mod MemOut
