pub mod States
pub mod Evaluations
pub mod Machine
pub mod Fronts
pub mod Views
pub mod Marks
pub mod Reports
