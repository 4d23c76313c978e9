-- The ends of the primary surface: 77.19(c).
use Rattle.std.specs.Prelude.{ℕ, ℤ, pos, ◌+ℤ◌, ◌-ℤ◌, ◌*ℤ◌, ◌≤ℤ◌, ◌≡◌, ◌*◌, unsigned_abs, Bool, if◌then◌else◌}
use Rattle.std.specs.Bool.{MatchBool}
use Rattle.grid_exact.specs.Root.{AtMostRoot}
use Rattle.grid_exact.specs.declared.start.TheConstants.{SETBACK}
use Rattle.grid_exact.specs.Excess.{greatest_up_to, is_at_most_root}

-- the primary surface extends a setback of 200 feet past each end of a hard runway. For an end with the coordinate `here` of a runway of
-- square length n, whose other end has the coordinate `there`: the greatest whole a with setback * (there - here) <= (here - a) * sqrt(n)
pub record IsExtended (here there : ℤ) (n : ℕ) (a : ℤ) : Type 0 where
  pub reaches : AtMostRoot (SETBACK *ℤ (there -ℤ here)) (here -ℤ a) n
  pub greatest : (b : ℤ) → AtMostRoot (SETBACK *ℤ (there -ℤ here)) (here -ℤ b) n → b ≤ℤ a

-- without a hard surface the primary surface ends with the runway
abbrev pub IsCenter : Bool → ℤ → ℤ → ℕ → ℤ → Type 0
IsCenter hard here there n a = MatchBool hard (IsExtended here there n a) (a ≡ here)

-- the setback of an end's coordinate, where d = there - here
pub record IsSetback (d : ℤ) (n : ℕ) (w : ℤ) : Type 0 where
  pub reaches : AtMostRoot (SETBACK *ℤ d) w n
  pub least : (z : ℤ) → AtMostRoot (SETBACK *ℤ d) z n → w ≤ℤ z

-- ---- the same as tests that compute

-- a is at most a setback below `here`, and at most one above it
unfoldable pub point_beyond : ℤ → ℤ → ℕ → ℤ
point_beyond here there n =
    here -ℤ SETBACK +ℤ pos (greatest_up_to (λ e. is_at_most_root (SETBACK *ℤ (there -ℤ here)) (SETBACK -ℤ pos e) n) (2 * unsigned_abs SETBACK))

abbrev pub center : Bool → ℤ → ℤ → ℕ → ℤ
center hard here there n = if hard then point_beyond here there n else here
