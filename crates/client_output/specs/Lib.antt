pub mod Sections
pub mod Written
