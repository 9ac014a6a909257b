pub mod Numbered
pub mod Noted
pub mod Flushed
pub mod Framed
pub mod Written
pub mod Began
pub mod Committed
