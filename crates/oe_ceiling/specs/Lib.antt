pub mod Ceilings
pub mod Searches
