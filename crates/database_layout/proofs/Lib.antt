pub mod ContentsLemmas
pub mod FreshLemmas
pub mod CreationLemmas
pub mod StoredTextLemmas
