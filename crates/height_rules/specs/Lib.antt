pub mod Heights
pub mod AboveGround
pub mod Limits
pub mod Laws
pub mod NearAirport
pub mod NearAreas
