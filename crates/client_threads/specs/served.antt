pub mod ClientRun
pub mod Works
pub mod Served
