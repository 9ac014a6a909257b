pub mod Popped
pub mod Counted
