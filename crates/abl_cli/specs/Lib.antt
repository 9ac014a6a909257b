pub mod Check
pub mod Stored
pub mod Command
pub mod CheckFiles
pub mod Undisturbed
pub mod Inside
