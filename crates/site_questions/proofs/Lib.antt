pub mod AnswerFacts
pub mod ClosingFacts
pub mod WayFacts
