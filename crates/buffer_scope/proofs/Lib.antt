pub mod Walk
pub mod Sets
pub mod Joined
pub mod Filled
pub mod Buffers
