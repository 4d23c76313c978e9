pub mod Bytes
pub mod Crash
pub mod Replay
pub mod Turns
pub mod Memory
pub mod Laws
