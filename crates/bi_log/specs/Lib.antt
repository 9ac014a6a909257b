pub mod Appending
pub mod Buffer
pub mod Logs
pub mod Reading
pub mod Outcomes
pub mod Generations
pub mod Carrying
pub mod Lengths
