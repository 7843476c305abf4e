pub mod Versions
pub mod Calls
