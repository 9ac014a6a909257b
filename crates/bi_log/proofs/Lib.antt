pub mod Batches
pub mod Content
pub mod NoteBytes
pub mod ReadSteps
pub mod Sealed
pub mod Preparing
pub mod Lengths
