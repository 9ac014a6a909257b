pub mod answers
pub mod Changes
pub mod Rows
pub mod Questions
pub mod Times
