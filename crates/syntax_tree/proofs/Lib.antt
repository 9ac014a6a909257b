pub mod Chains
pub mod Bodies
