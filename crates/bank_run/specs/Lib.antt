pub mod inputs
pub mod Texts
pub mod Phases
pub mod Result
pub mod Inside
pub mod Examples
