pub mod Masked
pub mod Lines
pub mod Imports
pub mod Laws
pub mod Examples
