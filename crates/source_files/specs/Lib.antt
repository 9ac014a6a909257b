pub mod Expansions
pub mod Files
pub mod Compiled
pub mod Held
pub mod Reading
pub mod Laws
pub mod Examples
