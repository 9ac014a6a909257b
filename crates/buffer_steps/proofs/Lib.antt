pub mod ReadsLemmas
pub mod BuffersLemmas
pub mod ChangesLemmas
