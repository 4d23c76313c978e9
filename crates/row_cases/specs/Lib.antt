pub use Rattle.wire_requests.specs.Spellings
pub use Rattle.wire_requests.specs.Limits
pub mod Cases
pub mod Entries
pub mod Filings
pub mod Older
