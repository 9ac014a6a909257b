pub mod Contents
pub mod Assigned
