pub mod Changes
pub mod Examples
