-- The runway of an airport that is nearest to a point: 77.9(b).
use Rattle.std.specs.Prelude.{ℤ, ◌≢◌, Bool, List, Option}
use Rattle.std.specs.List.{All, Contains, find, list_all}
use Rattle.std.specs.Ordering.{int_cmp, is_le, ordering_then}
use Rattle.std.specs.declared.cmp.Ordering.{Ordering}
use Rattle.std.specs.declared.cmp.Ordering.TheVariants.{Greater}
use Rattle.grid_exact.specs.Lines.{Offset, offset}
use Rattle.grid_exact.specs.declared.point.Point.{Point}
use Rattle.airfields.specs.Names.{name_cmp}
use Rattle.airfields.specs.declared.runway.Runway.{Runway}
use Rattle.runway_lines.specs.Centerlines.{elevation_at}
use Rattle.runway_lines.specs.Profiles.{profile_of}
use Rattle.runway_notice.specs.Distances.{Fraction, fraction_cmp, square_distance}

-- the position of the point relative to the runway's centerline
abbrev pub offset_of : Point → Runway → Offset
offset_of x r = offset (profile_of r).line x

-- the square of the distance from the centerline to the point
abbrev pub distance_of : Point → Runway → Fraction
distance_of x r = square_distance (offset_of x r)

-- the elevation of the nearest point of the centerline
abbrev pub elevation_of : Point → Runway → ℤ
elevation_of x r = elevation_at (profile_of r) (offset_of x r)

-- ordered by distance, and at the same distance by the elevation of the nearest point
abbrev pub nearness_cmp : Point → Runway → Runway → Ordering
nearness_cmp x r s = ordering_then (fraction_cmp (distance_of x r) (distance_of x s)) (int_cmp (elevation_of x r) (elevation_of x s))

-- the same order, and at the same elevation by name
abbrev pub taking_cmp : Point → Runway → Runway → Ordering
taking_cmp x r s = ordering_then (nearness_cmp x r s) (name_cmp r.name s.name)

-- the runway that counts as the nearest: no other comes before it in that order
pub record IsNearest (runways : List Runway) (x : Point) (r : Runway) : Type 0 where
  pub one_of : Contains runways r
  pub first : All (λ s. taking_cmp x r s ≢ Greater) runways

-- ---- the same as a function

-- no runway comes before r
abbrev pub is_first : List Runway → Point → Runway → Bool
is_first runways x r = list_all (λ s. is_le (taking_cmp x r s)) runways

-- the first runway in that order; among runways with different names there is at most one
abbrev pub nearest : List Runway → Point → Option Runway
nearest runways x = find (is_first runways x) runways
