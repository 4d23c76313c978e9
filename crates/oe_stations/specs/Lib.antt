pub mod Joining
pub mod Order
pub mod Ways
pub mod Merging
