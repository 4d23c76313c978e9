pub mod Primaries
pub mod Approaches
pub mod Transitions
pub mod Shapes
pub mod Strips
pub mod Clearances
pub mod Prepared
pub mod Areas
