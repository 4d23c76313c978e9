pub mod Fronts
pub mod History
