pub mod Places
pub mod Still
pub mod Freed
pub mod Exact
pub mod Clients
pub mod Noted
pub mod Rows
pub mod Scanned
