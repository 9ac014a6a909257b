pub mod Text
pub mod Stored
pub mod Laid
pub mod Agreement
pub mod Seen
pub mod Examples
