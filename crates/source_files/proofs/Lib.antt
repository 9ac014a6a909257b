pub mod Asked
pub mod Broken
pub mod Causes
pub mod Plain
pub mod Parts
