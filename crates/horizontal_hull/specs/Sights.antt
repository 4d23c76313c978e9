-- For proofs alone: the distances from a point to two arcs, and the test of their capsule by these numbers.
use Rattle.std.specs.Prelude.{ℕ, ℤ, pos, ◌≡◌, ◌↔◌, ◌⊎◌, ◌+◌, ◌*◌, ◌≤◌, ◌<◌, ◌+ℤ◌, ◌*ℤ◌, ◌≤ℤ◌, unsigned_abs, nat_le, IsTrue}
use Rattle.std.specs.Bool.{MatchBool}
use Rattle.grid_exact.specs.declared.point.Point.{Point}
use Rattle.horizontal_hull.specs.declared.seen.Seen.{Seen}
use Rattle.horizontal_hull.specs.Arcs.{ArcShape}
use Rattle.horizontal_hull.specs.Bands.{IsBetween}
use Rattle.horizontal_hull.specs.Capsules.{distance_ahead, distance_aside, distance_away, flare, span, tangent}

-- the distances for two arcs; the second radius is at least the first
pub record IsSeen (a b : ArcShape) (x : Point) (s : Seen) : Type 0 where
  pub first_is : s.first ≡ distance_away a x
  pub second_is : s.second ≡ distance_away b x
  pub first_radius_is : s.first_radius ≡ a.radius
  pub second_radius_is : s.second_radius ≡ b.radius
  pub square_is : s.square ≡ span a b
  pub lean_is : s.lean ≡ pos (flare a b) *ℤ distance_ahead a b x
  pub reach_is : s.reach ≡ distance_aside a b x * distance_aside a b x * tangent a b
  pub open_is : IsTrue s.is_open ↔ (flare a b * flare a b < span a b)
  pub between_is : IsTrue s.is_between ↔ IsBetween (span a b) (distance_ahead a b x) (distance_aside a b x) (flare a b)

-- the same for two arcs in either order
abbrev pub IsSeenOf : ArcShape → ArcShape → Point → Seen → Type 0
IsSeenOf a b x s = MatchBool (nat_le a.radius b.radius) (IsSeen a b x s) (IsSeen b a x s)

-- the distance of a tangent to the side of the line of the centers
abbrev pub width : Seen → ℕ → ℤ
width s c = pos ((s.first_radius + c) * s.square) +ℤ s.lean

-- the point is not outside that tangent
pub record IsUnder (s : Seen) (c : ℕ) : Type 0 where
  pub not_past : pos 0 ≤ℤ width s c
  pub reaches : s.reach ≤ unsigned_abs (width s c) * unsigned_abs (width s c)

-- the point is in the second disc, in the first one, or in the band between
abbrev pub InSight : Seen → ℕ → Type 0
InSight s c =
    (s.second ≤ (s.second_radius + c) * (s.second_radius + c))
    ⊎ ((IsTrue s.is_open × (s.first ≤ (s.first_radius + c) * (s.first_radius + c))) ⊎ (IsTrue s.is_between × IsUnder s c))
