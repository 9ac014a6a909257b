pub mod Texts
pub mod LineRead
