pub mod Unconcerned
pub mod Abouts
pub mod Turning
pub mod Reaching
pub mod Boxes
pub mod NearCases
pub mod Exactness
