pub mod reads
pub mod buffers
pub mod changes
