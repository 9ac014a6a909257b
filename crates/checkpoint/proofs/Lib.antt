pub mod KeptLemmas
pub mod NextLemmas
pub mod CarriedLemmas
