pub mod SessionLemmas
pub mod RunsLemmas
pub mod ClientsLemmas
pub mod ServedLemmas
