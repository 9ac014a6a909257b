pub mod readings
pub mod lines
pub mod Answers
pub mod Storing
