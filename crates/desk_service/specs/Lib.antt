pub mod Sittings
pub mod Replies
pub mod Services
