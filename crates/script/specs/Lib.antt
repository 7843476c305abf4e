pub mod Values
pub mod Verbs
pub mod Parts
pub mod Deeds
pub mod Lines
