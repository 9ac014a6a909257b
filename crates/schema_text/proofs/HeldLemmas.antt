pub mod NamedOnce
pub mod FewSequences
pub mod UsableIndexes
pub mod Held
