pub mod Tables
pub mod Statements
pub mod Sources
