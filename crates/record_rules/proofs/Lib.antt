pub mod ReadingsLemmas
pub mod LinesLemmas
pub mod Rest
pub mod RowLengths
pub mod EqualValues
