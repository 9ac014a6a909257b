pub mod LineEnds
pub mod TraceLines
pub mod Writing
