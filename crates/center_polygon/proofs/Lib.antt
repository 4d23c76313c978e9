pub mod SomeFacts
pub mod Turns
pub mod Deciding
pub mod Round
pub mod Flat
pub mod Boxes
