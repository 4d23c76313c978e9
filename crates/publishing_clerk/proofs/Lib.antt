pub mod Agreeing
pub mod Going
pub mod Making
pub mod Named
pub mod Offering
pub mod Over
pub mod Owning
pub mod Ruled
