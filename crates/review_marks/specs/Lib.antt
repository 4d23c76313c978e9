pub mod Books
pub mod Near
pub mod Shares
pub mod Turns
pub mod Nearby
