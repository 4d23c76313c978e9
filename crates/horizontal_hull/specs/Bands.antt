-- For proofs alone: the numbers that decide whether a point lies between the tangents of two arcs.
use Rattle.std.specs.Prelude.{ℕ, ℤ, pos, neg_ℤ, ◌≡◌, ◌+◌, ◌-◌, ◌*◌, ◌<◌, ◌≤◌, ◌^◌, ◌-ℤ◌, unsigned_abs}
use Rattle.grid_exact.specs.Root.{AtMostRoot}
use Rattle.grid_exact.specs.declared.point.Point.{Point}
use Rattle.horizontal_hull.specs.declared.sizes.TheConstants.{ARC_MOST, OUTER_MOST}
use Rattle.horizontal_hull.specs.Arcs.{ArcShape}
use Rattle.horizontal_hull.specs.Capsules.{distance_ahead, distance_aside, flare, span}

-- bounds on these numbers for two arcs of an airport and a point near them
pub record IsBand (square : ℕ) (along : ℤ) (across growth radius : ℕ) : Type 0 where
  pub square_size : square ≤ 2 ^ 41
  pub along_size : unsigned_abs along ≤ 2 ^ 41
  pub across_size : across ≤ 2 ^ 41
  pub growth_size : growth ≤ ARC_MOST
  pub radius_size : radius ≤ OUTER_MOST

-- the square of the distance between the centers, the position of the point along and beside the line between them, the difference of
-- the radii, and the first radius raised by c
pub record IsBandOf (a b : ArcShape) (x : Point) (c : ℕ) (square : ℕ) (along : ℤ) (across growth radius : ℕ) : Type 0 where
  pub square_is : square ≡ span a b
  pub along_is : along ≡ distance_ahead a b x
  pub across_is : across ≡ distance_aside a b x
  pub growth_is : growth ≡ flare a b
  pub radius_is : radius ≡ a.radius + c

-- the larger disc does not contain the smaller one, and the point lies between the touching points of the tangents
abbrev pub IsBetween : ℕ → ℤ → ℕ → ℕ → Type 0
IsBetween square along across growth =
    (growth * growth < square)
    × (AtMostRoot (neg_ℤ (pos (growth * across))) along (square - growth * growth) × AtMostRoot (pos (growth * across)) (pos square -ℤ along) (square - growth * growth))

-- bounds on the squared distances of a point from two centers, on both radii, on the squared distance between the centers, and on the
-- distance of the point along the line of the centers
pub record IsSight (first second first_radius second_radius square : ℕ) (lean : ℤ) : Type 0 where
  pub first_far : first ≤ 2 ^ 55
  pub second_far : second ≤ 2 ^ 55
  pub first_size : first_radius ≤ ARC_MOST
  pub second_size : second_radius ≤ ARC_MOST
  pub square_size : square ≤ 2 ^ 41
  pub lean_size : unsigned_abs lean ≤ 2 ^ 58
