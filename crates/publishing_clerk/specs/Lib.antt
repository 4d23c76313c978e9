pub mod Evaluations
pub mod Publishing
pub mod Rulings
pub mod Fronts
