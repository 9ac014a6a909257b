pub mod Holding
pub mod Noted
pub mod Calls
pub mod Fitting
pub mod Rightly
pub mod Unbroken
