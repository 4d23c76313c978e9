pub mod TestFacts
pub mod RuleFacts
