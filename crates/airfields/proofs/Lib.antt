pub mod Lengths
pub mod WithinLimits
pub mod NameText
pub mod SameFiling
pub mod SameStructures
pub mod NewFacts
