-- Lemmas: a play whose tests pass is a run, and plays at sites that act wrongly.
mod Kits
mod Playing
mod Scripts
mod Decisions
mod Values
mod Records
mod Happened
