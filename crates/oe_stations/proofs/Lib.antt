pub mod Places
pub mod Merged
pub mod Putting
pub mod Stations
pub mod OneOrder
pub mod Single
pub mod OneList
