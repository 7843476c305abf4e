pub mod Ways
pub mod Wrong
pub mod Plays
pub mod Lawful
