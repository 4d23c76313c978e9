pub use Rattle.runway_notice.specs.Distances
pub use Rattle.runway_notice.specs.Nearest
pub use Rattle.runway_notice.specs.Slopes
pub use Rattle.runway_notice.specs.Surfaces
pub use Rattle.runway_notice.specs.Notices
pub mod Exemptions
pub mod OnAirfields
