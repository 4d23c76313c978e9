-- For proofs alone: the least number that passes a test, and the height of the conical surface above the horizontal one.
use Rattle.std.specs.Prelude.{ℕ, ◌≡◌, ◌*◌, ◌<◌, ◌≤◌, Bool, true, List}
use Rattle.grid_exact.specs.declared.point.Point.{Point}
use Rattle.horizontal_hull.specs.declared.edge.Edge.TheVariants.{Closed}
use Rattle.horizontal_hull.specs.declared.sizes.TheConstants.{CONICAL_RISE, CONICAL_SLOPE}
use Rattle.horizontal_hull.specs.Arcs.{ArcShape}
use Rattle.horizontal_hull.specs.Capsules.{in_capsule}
use Rattle.horizontal_hull.specs.Within.{Within}

-- the least number that passes, or `most` where none below it does
pub record IsLeastRise (passes : ℕ → Bool) (most rise : ℕ) : Type 0 where
  pub bound : rise ≤ most
  pub reaches : rise < most → passes rise ≡ true
  pub least : (k : ℕ) → passes k ≡ true → rise ≤ k

-- a point lies in the capsule of two arcs, raised by the outward distance over which the conical surface has this rise
abbrev pub in_risen : Point → ℕ → ArcShape → ArcShape → Bool
in_risen x k a b = in_capsule Closed a b x (CONICAL_SLOPE * k)

-- the least whole rise at or above the conical surface
pub record IsRise (arcs : List ArcShape) (x : Point) (rise : ℕ) : Type 0 where
  pub bound : rise ≤ CONICAL_RISE
  pub reaches : Within Closed arcs x (CONICAL_SLOPE * rise)
  pub least : (k : ℕ) → Within Closed arcs x (CONICAL_SLOPE * k) → rise ≤ k
