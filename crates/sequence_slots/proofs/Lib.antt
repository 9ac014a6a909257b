pub mod WritesLemmas
pub mod ReadsLemmas
pub mod Laid
pub mod Reading
