pub mod Sizes
pub mod Agreeing
pub mod TableLaws
