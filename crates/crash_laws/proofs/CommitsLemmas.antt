pub mod Entered
pub mod Rows
pub mod Listed
pub mod Commits
