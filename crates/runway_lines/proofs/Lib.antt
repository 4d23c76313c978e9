pub mod CenterFacts
pub mod AxisFacts
pub mod ElevationFacts
pub mod ClassFacts
