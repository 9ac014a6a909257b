pub mod WatchedLemmas
pub mod Disks
pub mod Runs
pub mod Sends
