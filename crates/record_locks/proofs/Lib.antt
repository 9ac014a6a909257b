pub mod Settling
pub mod Tables
pub mod Listing
pub mod PathLemmas
pub mod Deciding
pub mod Apart
pub mod Waiting
