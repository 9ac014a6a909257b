pub mod Halting
pub mod Halting_parts
pub mod Halting_changes
pub mod Halting_whole
pub mod Ends
pub mod Careful
pub mod OwnEvents
pub mod Unrefused
