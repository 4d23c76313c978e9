pub mod Statuses
pub mod Commands
pub mod Runs
pub mod Generating
