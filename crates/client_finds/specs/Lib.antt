pub mod Stays
pub mod Steps
