pub mod Desk
pub mod Complete
