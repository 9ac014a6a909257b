pub mod Appended
pub mod Successive
pub mod Walks
