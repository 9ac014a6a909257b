pub mod Bytes
pub mod Runs
pub mod Ends
pub mod Pieces
pub mod Quotes
pub mod Gathers
