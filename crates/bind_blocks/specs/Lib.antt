pub mod Flow
pub mod Headers
pub mod Named
pub mod Records
pub mod Views
