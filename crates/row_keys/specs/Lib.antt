pub mod Numbers
pub mod Entries
pub mod Blank
pub mod Moves
pub mod Listed
pub mod Reserved
pub mod Prefixes
pub mod Questions
