-- Lemmas on words: each file cites only those above it.
mod Fronts
mod Every
mod Rising
mod Counts
mod FirstWord
mod Codes
mod Heads
mod Spellings
pub mod MessageSpelling
pub mod PageSpelling
mod Puts
pub mod SpelledPages
mod ReadsBack
