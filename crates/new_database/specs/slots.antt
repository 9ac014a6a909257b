pub mod Sparse
pub mod Promised
pub mod Mem
