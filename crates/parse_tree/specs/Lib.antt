pub mod Keywords
pub mod Tokens
pub mod Examples
