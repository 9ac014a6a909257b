pub mod LinesLemmas
pub mod Paid
pub mod Effects
pub mod Imported
pub mod GivenValues
pub mod StateRead
pub mod Exported
