pub mod Scopes
pub mod Assigned
pub mod Each
pub mod Headers
