pub mod ListingLemmas
pub mod BlockLists
pub mod Headers
pub mod Numbers
pub mod Placed
pub mod Tokens
pub mod Violations
