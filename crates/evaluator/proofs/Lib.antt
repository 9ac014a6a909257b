pub mod Begins
pub mod Splits
pub mod Chains
