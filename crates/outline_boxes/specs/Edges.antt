-- For proofs alone: sizes of the edges of an outline.
use Rattle.std.specs.Prelude.{ℕ, ℤ, pos, ◌+ℤ◌, ◌*ℤ◌, ◌≤ℤ◌, ◌<ℤ◌}
use Rattle.grid_exact.specs.Lines.{IsSquare}

-- the near edge is at the start of a line of square length n, and the far one `ahead` of it; they extend `near` and `far` to each
-- side; all lengths are times the scale
pub record IsEdges (scale ahead near far : ℤ) (n : ℕ) : Type 0 where
  pub line : IsSquare n
  pub scale_least : pos 0 <ℤ scale
  pub scale_most : scale ≤ℤ pos 1048576
  pub ahead_least : pos 0 ≤ℤ ahead
  pub near_least : pos 0 ≤ℤ near
  pub near_most : near ≤ℤ far
  pub reach_most : (ahead +ℤ far) ≤ℤ (scale *ℤ pos 1048576)
