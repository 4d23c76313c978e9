pub mod Standing
pub mod Decisions
pub mod Cases
pub mod Rules
pub mod Effects
pub mod Rulings
