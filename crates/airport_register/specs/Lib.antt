pub use Rattle.airfields.specs.Names
pub use Rattle.airfields.specs.Categories
pub use Rattle.airfields.specs.Runways
pub use Rattle.airfields.specs.Airfields
pub use Rattle.airfields.specs.Sites
pub mod Registers
pub mod Amendments
pub mod Changes
