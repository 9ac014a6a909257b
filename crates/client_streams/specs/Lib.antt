pub mod lines
pub mod Imports
pub mod Records
pub mod Statements
