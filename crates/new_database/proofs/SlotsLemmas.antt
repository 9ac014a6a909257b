pub mod Places
pub mod Clients
pub mod Changes
pub mod Composes
