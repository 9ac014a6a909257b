pub mod logged
pub mod Opening
