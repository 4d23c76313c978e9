-- Airfields.
use Rattle.std.specs.Prelude.{ℕ, ◌*◌, ◌≤◌, ℤ, ◌-ℤ◌, ◌≤ℤ◌, int_le, List, length, Bool, ◌&&◌, nat_le}
use Rattle.std.specs.List.{All}
use Rattle.ordered_list.specs.Ordered.{Rises}
use Rattle.airfields.specs.Names.{name_cmp}
use Rattle.airfields.specs.Runways.{name_of, IsElevation, IsProper, HasNearEnds}
use Rattle.grid_exact.specs.Vector.{length_of}
use Rattle.airfields.specs.declared.category.Category.{Category}
use Rattle.airfields.specs.declared.airfield.Airport.{Airport}
use Rattle.airfields.specs.declared.airfield.Heliport.{Heliport}
use Rattle.airfields.specs.declared.airfield.Airfield.{Airfield}
use Rattle.airfields.specs.declared.limits.TheConstants.{HELIPORT_AXIS_LEAST, HELIPORT_AXIS_MOST, HELIPORT_WIDTH_LEAST, HELIPORT_WIDTH_MOST}
use Rattle.airfields.specs.declared.runways.TheConstants.{MOST_RUNWAYS}
use Rattle.airfields.specs.declared.airfield.Airfield.TheVariants.{Airport as AnAirport, Heliport as AHeliport}

abbrev pub id_of : Airfield → List ℕ
id_of (AnAirport a) = a.id
id_of (AHeliport h) = h.id

abbrev pub category_of : Airfield → Category
category_of (AnAirport a) = a.category
category_of (AHeliport h) = h.category

-- an airport that may stand in the register: at most the allowed number of runways, in rising order of name, each within its limits and
-- near the reference point
pub record IsHeldAirport (a : Airport) : Type 0 where
  pub elevation : IsElevation a.elevation
  pub number : length a.runways ≤ MOST_RUNWAYS
  pub rises : Rises name_cmp name_of a.runways
  pub proper : All IsProper a.runways
  pub near : All (HasNearEnds a.arp) a.runways

-- the square of the length of the axis of a heliport's takeoff and landing area
abbrev pub axis_square : Heliport → ℕ
axis_square h = length_of (h.b.x -ℤ h.a.x) (h.b.y -ℤ h.a.y)

-- a heliport that may stand in the register: the length of the axis of its takeoff and landing area is within its limits, and so is
-- the width of that area
pub record IsHeldHeliport (h : Heliport) : Type 0 where
  pub elevation : IsElevation h.elevation
  pub axis_least : HELIPORT_AXIS_LEAST * HELIPORT_AXIS_LEAST ≤ axis_square h
  pub axis_most : axis_square h ≤ HELIPORT_AXIS_MOST * HELIPORT_AXIS_MOST
  pub width_least : HELIPORT_WIDTH_LEAST ≤ℤ h.width
  pub width_most : h.width ≤ℤ HELIPORT_WIDTH_MOST

-- an airfield that may stand in the register
abbrev pub IsHeld : Airfield → Type 0
IsHeld (AnAirport a) = IsHeldAirport a
IsHeld (AHeliport h) = IsHeldHeliport h

-- ---- the shape of a heliport, as tests that compute

abbrev pub is_axis : Heliport → Bool
is_axis h = nat_le (HELIPORT_AXIS_LEAST * HELIPORT_AXIS_LEAST) (axis_square h) && nat_le (axis_square h) (HELIPORT_AXIS_MOST * HELIPORT_AXIS_MOST)

abbrev pub is_width : ℤ → Bool
is_width w = int_le HELIPORT_WIDTH_LEAST w && int_le w HELIPORT_WIDTH_MOST

abbrev pub has_heliport_shape : Heliport → Bool
has_heliport_shape h = is_axis h && is_width h.width
