pub mod slots
pub mod Contents
pub mod New
