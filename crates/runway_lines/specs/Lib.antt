pub mod Centers
pub mod Centerlines
pub mod Ends
pub mod Profiles
