pub mod Asks
pub mod EachOne
pub mod Flagged
