pub mod Unasked
pub mod Indexing
pub mod Renewing
pub mod Giving
