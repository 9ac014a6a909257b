pub mod Rows
pub mod Tables
pub mod Answers
pub mod Undo
pub mod Calls
