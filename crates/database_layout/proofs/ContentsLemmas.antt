pub mod NewSlots
pub mod Births
pub mod SmallImages
