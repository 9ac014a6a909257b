pub mod session
pub mod runs
pub mod clients
pub mod served
