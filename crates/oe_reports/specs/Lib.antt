pub use Rattle.wire_values.specs.Words
pub use Rattle.determination_dates.specs.Text
pub mod Columns
pub mod Tables
