pub mod Lists
pub mod Alone
pub mod Arguments
pub mod Numbered
pub mod Within
pub mod Past
