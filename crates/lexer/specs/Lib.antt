pub mod Bytes
pub mod Forms
pub mod Gaps
pub mod Meanings
pub mod Texts
pub mod Examples
