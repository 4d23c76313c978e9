pub mod Versions
pub mod Lines
pub mod Replies
pub mod Sessions
pub mod Histories
