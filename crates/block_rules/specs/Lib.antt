pub mod Blocks
pub mod Options
pub mod Rules
pub mod Classes
pub mod Around
pub mod Examples
