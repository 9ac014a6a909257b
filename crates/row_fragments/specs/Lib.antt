pub mod Fragments
pub mod Calls
pub mod Tied
pub mod Stops
pub mod Kinds
pub mod Measures
pub mod Chains
