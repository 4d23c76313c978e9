mod Plain
mod NumberFacts
mod RuleFacts
mod EntryFacts
mod WordFacts
pub mod KeyFacts
mod OneEntry
mod ListFacts
mod RowTexts
mod FilingFacts
mod OneCase
mod Choices
pub mod Renewing
