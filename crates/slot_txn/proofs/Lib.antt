pub mod LoggedLemmas
pub mod Recovered
pub mod Torn
pub mod Opened
