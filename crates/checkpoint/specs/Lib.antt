pub mod kept
pub mod next
