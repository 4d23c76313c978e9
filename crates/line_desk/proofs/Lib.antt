pub mod ChangeFacts
pub mod QueryFacts
pub mod StepFacts
pub mod SeenFacts
pub mod PlainFacts
pub mod CompleteFacts
