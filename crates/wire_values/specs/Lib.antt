pub mod Words
pub mod Letters
pub mod Wanted
pub mod Commas
pub mod Plains
pub mod Plainness
