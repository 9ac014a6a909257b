pub mod Items
pub mod Innermost
pub mod Options
pub mod Anding
pub mod Finds
pub mod Phrase
pub mod Strong
pub mod Joining
