pub mod Levels
pub mod Squares
pub mod Visits
pub mod Parts
pub mod Changes
pub mod Trees
