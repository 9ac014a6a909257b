pub mod AnswersLemmas
pub mod Copies
