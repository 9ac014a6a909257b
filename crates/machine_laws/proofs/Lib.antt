pub mod UnitsLemmas
pub mod HaltsLemmas
pub mod LevelsLemmas
pub mod LocksLemmas
pub mod OperationsLemmas
pub mod PendingLemmas
pub mod RequestsLemmas
