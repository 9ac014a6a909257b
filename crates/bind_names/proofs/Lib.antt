pub mod Joined
pub mod Numbers
pub mod Having
pub mod ByTables
pub mod Firsts
