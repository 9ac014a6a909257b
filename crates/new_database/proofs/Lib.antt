pub mod SlotsLemmas
pub mod Empty
pub mod Sends
