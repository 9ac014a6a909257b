pub mod Current
pub mod Fixed
pub mod Steps
