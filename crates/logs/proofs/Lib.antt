pub mod Numbers
pub mod Holding
pub mod Entries
mod Loggable
mod Tables
mod PageLaws
mod Laid
mod Spelt
mod Pasted
