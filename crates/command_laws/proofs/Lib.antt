pub mod RefusalsLemmas
pub mod Unrefused
pub mod Histories
pub mod Results
pub mod Databases
