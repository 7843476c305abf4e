-- The word format: one word, its kinds, writes, messages, pages, a reader's answers, and words put into a buffer.
pub mod Bits
pub mod Kinds
pub mod Writes
pub mod Messages
pub mod Pages
pub mod Scans
pub mod Encoded
