pub mod HeightFacts
pub mod RootFacts
pub mod NearFacts
pub mod AreaFacts
