pub mod WorkFacts
pub mod TeamFacts
pub mod OpenFacts
