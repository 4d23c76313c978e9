pub mod Replaying
pub mod Worked
pub mod Going
pub mod Presence
pub mod CaseFacts
