pub mod Account
pub mod Scenes
pub mod Laws
pub mod Kept
pub mod SceneMaps
pub mod Books
pub mod Shown
pub mod Cases
