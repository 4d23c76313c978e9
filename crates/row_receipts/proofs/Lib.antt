pub mod NumberFacts
mod Words
mod OutcomeChoices
mod KindFacts
mod FrameFacts
mod DeterminedFacts
mod OneOutcome
mod CutFacts
mod ReceiptChoices
mod ChangeFacts
mod RowFacts
