pub use Rattle.wire_replies.specs.Outcomes
pub use Rattle.row_cases.specs.Entries
pub mod Kinds
pub mod Fields
pub mod Receipts
pub mod Issuances
