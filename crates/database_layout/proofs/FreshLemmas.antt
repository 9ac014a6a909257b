pub mod Counted
pub mod Laying
