pub mod Forms
pub mod Gives
pub mod Chains
pub mod Parts
pub mod Examples
