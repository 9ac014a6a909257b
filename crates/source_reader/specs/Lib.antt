pub mod listing
pub mod Sources
pub mod Headers
pub mod TextBlocks
pub mod Numbered
pub mod Verdicts
