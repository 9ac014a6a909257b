pub mod ReadNotes
pub mod NoteSlots
pub mod Reopening
pub mod Carried
pub mod Creating
pub mod Causes
