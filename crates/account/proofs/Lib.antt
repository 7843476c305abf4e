pub mod Places
pub mod Steps
pub mod Horizons
pub mod Clashes
mod Walks
pub mod KnownNumbers
pub mod Entries
mod SceneSteps
