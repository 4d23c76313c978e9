pub mod CommandFacts
pub mod GenerateFacts
pub mod RunFacts
pub mod LinkFacts
pub mod OpenFacts
pub mod UnkeptFacts
pub mod CompleteFacts
