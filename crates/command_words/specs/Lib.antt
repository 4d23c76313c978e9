pub mod Options
pub mod Parsing
pub mod Commands
