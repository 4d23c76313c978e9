pub mod Fakes
pub mod Loopback
pub mod Ports
pub mod Serving
pub mod Teams
