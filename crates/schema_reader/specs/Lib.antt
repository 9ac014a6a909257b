pub mod Meaning
pub mod Rules
pub mod Laws
pub mod Examples
-- how the walk over the items counts, and how it lays out fields; no public contract cites these two
pub mod Census
pub mod InOrder
