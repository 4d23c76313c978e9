pub mod Desks
pub mod Answers
pub mod Clerks
pub mod Marked
pub mod Served
pub mod Loads
