pub mod Record
pub mod Law
pub mod Runs
pub mod Groups
pub mod AnyModel
