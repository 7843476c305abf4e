-- Lemmas of the law over runs: each file cites only those above it.
mod Nths
mod Accounts
mod Leasts
mod LogForms
mod Judged
mod PagesRight
mod LogSound
mod Turns
mod Tables
mod SlotsRight
mod SlotDeeds
mod SceneValues
mod StoreRight
mod Refusals
mod SiteSound
mod DraftCalls
mod StepCalls
mod LogCalls
mod Kept
mod Answered
pub mod RunLaw
mod GroupCalls
mod Makings
