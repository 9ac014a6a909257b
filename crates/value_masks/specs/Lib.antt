pub mod Put
pub mod Export
pub mod Laws
pub mod Examples
