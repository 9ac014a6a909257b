pub mod table
pub mod Parts
pub mod Images
pub mod Answers
pub mod Inside
