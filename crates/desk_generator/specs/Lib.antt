pub mod Draws
pub mod Drawings
pub mod Requests
pub mod Desks
pub mod Tallies
