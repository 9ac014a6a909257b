pub mod Variables
pub mod Reads
pub mod Scope
pub mod Ends
pub mod Loops
pub mod Given
