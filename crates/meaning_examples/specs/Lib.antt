pub mod Small
pub mod Expressions
pub mod Rows
pub mod Records
pub mod Procedures
