pub mod List
pub mod Nearness
pub mod Screenings
pub mod Outside
