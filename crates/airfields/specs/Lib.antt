pub mod Names
pub mod Categories
pub mod Runways
pub mod Airfields
pub mod Sites
