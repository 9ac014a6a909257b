pub mod Lines
pub mod Forms
pub mod Files
pub mod Numbers
pub mod Initials
pub mod Attributes
pub mod Examples
-- how the walk over the lines keeps its items; no public contract cites it
pub mod Walk
