mod Keys
pub mod PartFacts
pub mod FieldShapes
mod AirfieldFacts
mod RunwayFacts
mod OneValue
mod Examples
