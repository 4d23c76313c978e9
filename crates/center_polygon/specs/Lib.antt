pub mod Spots
pub mod Somes
pub mod Triangles
pub mod Walks
pub mod Shapes
