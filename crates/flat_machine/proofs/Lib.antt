pub mod PartSteps
pub mod StatementSteps
pub mod TaskSteps
pub mod Machine
pub mod Written
pub mod Continues
pub mod Fused
