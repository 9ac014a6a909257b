pub mod Blocks
pub mod Scopes
pub mod First
pub mod Rules
pub mod Scoped
pub mod Views
pub mod Examples
