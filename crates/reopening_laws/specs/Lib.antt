pub mod Older
pub mod Refusals
