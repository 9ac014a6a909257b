pub mod Written
pub mod Clients
