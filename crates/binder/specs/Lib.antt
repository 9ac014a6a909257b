pub mod Statements
pub mod Sources
pub mod Taken
pub mod Groups
pub mod Items
pub mod Counted
pub mod Views
pub mod Examples
