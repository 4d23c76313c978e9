-- Runways, and the limits of one runway.
use Rattle.std.specs.Prelude.{ℕ, ◌+◌, ◌*◌, ◌≤◌, ◌≡◌, ◌≢◌, List, Option, Some, None, is_some, ℤ, ◌-ℤ◌, ◌≤ℤ◌, int_le, unsigned_abs, Bool, true, false, ◌&&◌, ◌||◌, nat_le, nat_lt}
use Rattle.runway_classes.specs.declared.ApproachKind.{ApproachKind}
use Rattle.runway_classes.specs.declared.ApproachKind.TheVariants.{Visual, NonprecisionAbove, NonprecisionLow, Precision}
use Rattle.runway_classes.specs.Class.{more_precise}
use Rattle.grid_exact.specs.declared.point.Point.{Point}
use Rattle.ordered_list.specs.Ordered.{found_by}
use Rattle.airfields.specs.Names.{name_cmp}
use Rattle.airfields.specs.declared.runway.Runway.{Runway}
use Rattle.airfields.specs.declared.runway.RunwayEnd.{RunwayEnd}
use Rattle.airfields.specs.declared.limits.TheConstants.{ELEVATION_LEAST, ELEVATION_MOST, RUNWAY_LEAST, RUNWAY_MOST, RUNWAY_REACH}
use Rattle.airfields.specs.declared.runways.TheConstants.{LONG_RUNWAY}

abbrev pub name_of : Runway → List ℕ
name_of r = r.name

-- the runway of this name
abbrev pub runway_at : List Runway → List ℕ → Option Runway
runway_at runways name = found_by name_cmp name_of name runways

-- the more precise of a kind and a planned one, where one is planned
abbrev pub more_precise_planned : ApproachKind → Option ApproachKind → ApproachKind
more_precise_planned kind None = kind
more_precise_planned kind (Some planned) = more_precise kind planned

-- the kind of approach that the surfaces of an end follow: 77.19 speaks of approaches that exist or are planned
abbrev pub effective : RunwayEnd → ApproachKind
effective e = more_precise_planned e.kind e.planned

-- an approach is planned for an end of the runway
abbrev pub is_planned : Runway → Bool
is_planned r = is_some r.end1.planned || is_some r.end2.planned

-- the distance between two coordinates
abbrev pub distance_apart : ℤ → ℤ → ℕ
distance_apart a b = unsigned_abs (a -ℤ b)

-- the square of the length, from end to end
abbrev pub length_square : Runway → ℕ
length_square r = distance_apart r.end1.at.x r.end2.at.x * distance_apart r.end1.at.x r.end2.at.x + distance_apart r.end1.at.y r.end2.at.y * distance_apart r.end1.at.y r.end2.at.y

-- a runway longer than 3,200 feet
abbrev pub is_long : Runway → Bool
is_long r = nat_lt (LONG_RUNWAY * LONG_RUNWAY) (length_square r)

-- the length of a runway is within its limits
pub record IsWithinLength (r : Runway) : Type 0 where
  pub least : RUNWAY_LEAST * RUNWAY_LEAST ≤ length_square r
  pub most : length_square r ≤ RUNWAY_MOST * RUNWAY_MOST

-- an elevation is within its limits
pub record IsElevation (z : ℤ) : Type 0 where
  pub least : ELEVATION_LEAST ≤ℤ z
  pub most : z ≤ℤ ELEVATION_MOST

-- the limits of a runway that do not depend on its airport: its length, the elevations of both ends, and that no end of a utility
-- runway has or is planned for a precision approach, for which 77.19 has no class
pub record IsProper (r : Runway) : Type 0 where
  pub within_length : IsWithinLength r
  pub elevation1 : IsElevation r.end1.z
  pub elevation2 : IsElevation r.end2.z
  pub no_precision1 : r.utility ≡ true → effective r.end1 ≢ Precision
  pub no_precision2 : r.utility ≡ true → effective r.end2 ≢ Precision

-- a point is near enough to the reference point in each coordinate
pub record IsNear (arp at : Point) : Type 0 where
  pub x : distance_apart at.x arp.x ≤ RUNWAY_REACH
  pub y : distance_apart at.y arp.y ≤ RUNWAY_REACH

-- both ends of a runway are near enough to the reference point
pub record HasNearEnds (arp : Point) (r : Runway) : Type 0 where
  pub end1 : IsNear arp r.end1.at
  pub end2 : IsNear arp r.end2.at

-- ---- the same predicates as tests that compute

abbrev pub is_within_length : Runway → Bool
is_within_length r = nat_le (RUNWAY_LEAST * RUNWAY_LEAST) (length_square r) && nat_le (length_square r) (RUNWAY_MOST * RUNWAY_MOST)

abbrev pub is_elevation : ℤ → Bool
is_elevation z = int_le (ELEVATION_LEAST) z && int_le z (ELEVATION_MOST)

abbrev pub has_elevations : Runway → Bool
has_elevations r = is_elevation r.end1.z && is_elevation r.end2.z

abbrev pub is_precision : ApproachKind → Bool
is_precision Visual = false
is_precision NonprecisionAbove = false
is_precision NonprecisionLow = false
is_precision Precision = true

-- a utility runway has an end with a precision approach that it has or is planned for
abbrev pub is_precision_on_utility : Runway → Bool
is_precision_on_utility r = r.utility && (is_precision (effective r.end1) || is_precision (effective r.end2))

abbrev pub is_near : Point → Point → Bool
is_near arp at = nat_le (distance_apart at.x arp.x) RUNWAY_REACH && nat_le (distance_apart at.y arp.y) RUNWAY_REACH

abbrev pub has_near_ends : Point → Runway → Bool
has_near_ends arp r = is_near arp r.end1.at && is_near arp r.end2.at
