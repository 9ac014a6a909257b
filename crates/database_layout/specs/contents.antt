pub mod Chains
pub mod Contents
pub mod Born
pub mod Examples
