pub mod FrameLists
pub mod AreaRuns
pub mod AreaViews
pub mod Laws
pub mod Extended
