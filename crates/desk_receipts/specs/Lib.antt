pub mod Keepers
pub mod Handed
pub mod Receipts
pub mod Renewals
