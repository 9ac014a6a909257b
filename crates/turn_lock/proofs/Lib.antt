pub mod Sums
pub mod RuleKept
pub mod PassLists
pub mod Calls
