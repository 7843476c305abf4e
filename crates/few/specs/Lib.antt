pub mod Lists
pub mod Gathered
