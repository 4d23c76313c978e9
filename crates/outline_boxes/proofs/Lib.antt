pub mod EdgeSizes
pub mod Covers
pub mod Corners
pub mod BoxFacts
pub mod More
pub mod Opposites
pub mod KeptBoxes
