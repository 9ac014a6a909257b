pub mod CarriedNotes
pub mod Opening
pub mod Opened
