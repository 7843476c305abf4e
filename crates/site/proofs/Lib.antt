-- Lemmas that several proofs share.
pub mod EditWrites
pub mod SlotLaws
mod LogFacts
pub mod Spelt
mod PageFacts
mod Clashes
mod Gathered
mod Settling
mod Delivered
mod PagesTaken
mod Unknown
