pub mod Judged
pub mod Sorts
pub mod Names
pub mod Views
pub mod Listed
pub mod ByTable
pub mod Among
