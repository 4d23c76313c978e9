pub mod Lists
pub mod ActFacts
pub mod Judging
pub mod Orders
