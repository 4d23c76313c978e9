mod DateFacts
pub mod PageFacts
