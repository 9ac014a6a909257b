pub mod Buffers
pub mod Steps
