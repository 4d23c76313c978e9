pub mod LineFacts
pub mod FeedFacts
pub mod SentFacts
pub mod SessionFacts
pub mod WaitingFacts
pub mod EndingFacts
