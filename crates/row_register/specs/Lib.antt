pub use Rattle.wire_values.specs.Commas
pub use Rattle.wire_values.specs.Words
pub mod Desk
pub mod Airfields
pub mod Runways
pub mod Parts
