-- Texts that grow.
use Rattle.std.specs.Prelude.{ℕ, List, ◌++◌, ◌≡◌}

-- the new bytes are the old ones followed by zero or more bytes
pub record Extends (old new : List ℕ) : Type 0 where
  pub part : List ℕ
  pub grown : new ≡ old ++ part
