pub mod Lowering
pub mod SurfacesBelow
pub mod HeliportsBelow
pub mod NoticesBelow
pub mod ListsBelow
pub mod Heights
pub mod Halving
