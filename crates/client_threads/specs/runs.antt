pub mod Careful
pub mod Unrefused
