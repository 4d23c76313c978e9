pub use Rattle.wire_values.specs.Words
pub use Rattle.wire_values.specs.Wanted
pub mod Shape
pub mod Groups
