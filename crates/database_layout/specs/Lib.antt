pub mod contents
pub mod fresh
pub mod creation
pub mod stored_text
