pub mod InputsLemmas
pub mod Begun
pub mod Lists
pub mod Outcomes
