pub mod RisingKeys
pub mod Tests
pub mod GoingOn
pub mod Coming
pub mod Whole
mod Excesses
mod PadExcesses
mod SlopeFacts
mod EntryFacts
mod Findings
pub mod Shown
pub mod DateLimits
pub mod RecordLimits
pub mod AmendmentNames
pub mod PlainEffects
pub mod CaseActs
pub mod CaseStarts
pub mod Revisions
pub mod NewCases
pub mod NewEntries
pub mod Acted
pub mod ClosedDays
pub mod SteppedDesks
pub mod DesksGoOn
pub mod RowsInOrder
pub mod Walks
pub mod Places
pub mod Owners
pub mod DeskParts
pub mod ReadDesks
pub mod Split
pub mod Named
pub mod Kepts
pub mod Registers
pub mod Days
pub mod Cases
pub mod Receipts
pub mod Keeping
pub mod OneRows
pub mod Bare
pub mod RowFacts
pub mod WalkFacts
pub mod RenewalFacts
pub mod SoundFacts
pub mod FormatFacts
pub mod RequestRows
pub mod RowsTaken
pub mod RowsGrown
pub mod RowsWanting
pub mod RowsRead
