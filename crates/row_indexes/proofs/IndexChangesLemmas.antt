pub mod Ended
pub mod AfterEnd
pub mod Leaves
pub mod Restored
