pub mod Charts
pub mod Ceilings
pub mod Ways
pub mod WaySessions
pub mod Questions
