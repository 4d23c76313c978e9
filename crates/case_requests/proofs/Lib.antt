pub mod SameActs
