pub mod ParseFacts
pub mod WalkFacts
pub mod SoundFacts
pub mod WholeFacts
pub mod CompleteFacts
pub mod RowFacts
pub mod CommandFacts
