pub mod Spelling
pub mod Reading
pub mod Frames
pub mod Standing
pub mod Journal
pub mod Results
pub mod Runs
