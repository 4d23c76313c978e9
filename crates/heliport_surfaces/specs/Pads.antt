-- The surfaces of a heliport: 77.23 and 77.9(b)(3).
use Rattle.std.specs.Prelude.{ℕ, ℤ, ◌-ℤ◌, ◌≡◌, if◌then◌else◌, Bool, IsTrue, Option, None}
use Rattle.grid_exact.specs.Excess.{Surface}
use Rattle.grid_exact.specs.Lines.{Line, Offset, offset}
use Rattle.grid_exact.specs.declared.point.Point.{Point}
use Rattle.airfields.specs.Categories.{is_described, is_military}
use Rattle.airfields.specs.declared.airfield.Heliport.{Heliport}
use Rattle.heliport_surfaces.specs.declared.parts.PadEnd.{PadEnd}
use Rattle.heliport_surfaces.specs.declared.parts.PadEnd.TheVariants.{One, Two}
use Rattle.heliport_surfaces.specs.declared.parts.Beside.{Beside}
use Rattle.heliport_surfaces.specs.declared.parts.Beside.TheVariants.{Primary, ApproachOne, ApproachTwo}
use Rattle.heliport_surfaces.specs.declared.parts.PadExcesses.{PadExcesses}
use Rattle.heliport_surfaces.specs.Landings.{Landing, primary, primary_side, excess_over_primary, excess_over_primary_side}
use Rattle.heliport_surfaces.specs.Approaches.{Approach, approach, approach_side, excess_over_approach, excess_over_approach_side}
use Rattle.heliport_surfaces.specs.Notices.{notice, excess_over_notice}
use Rattle.heliport_surfaces.specs.declared.rules.TheConstants.{CIVIL_SLOPE, MILITARY_SLOPE}

-- the line that starts at a point and has the vector between two points
abbrev pub line_from : (start from to : Point) → Line
line_from start from to = record { x = start.x; y = start.y; dx = to.x -ℤ from.x; dy = to.y -ℤ from.y }

-- the line outward from this end of the axis
abbrev pub outward_line : Heliport → PadEnd → Line
outward_line h One = line_from h.a h.b h.a
outward_line h Two = line_from h.b h.a h.b

-- 8 to 1 for civil heliports and 10 to 1 for military heliports
abbrev pub approach_slope : Heliport → ℤ
approach_slope h = if is_military h.category then MILITARY_SLOPE else CIVIL_SLOPE

unfoldable pub landing_of : Heliport → Landing
landing_of h = record { line = line_from h.a h.a h.b; width = h.width; z = h.elevation }

unfoldable pub approach_of : Heliport → PadEnd → Approach
approach_of h end = record { line = outward_line h end; width = h.width; z = h.elevation; slope = approach_slope h }

-- the position of a point relative to the axis of the area, and to the line outward from an end
abbrev pub landing_offset : Heliport → Point → Offset
landing_offset h x = offset (landing_of h).line x

abbrev pub approach_offset : Heliport → PadEnd → Point → Offset
approach_offset h end x = offset (approach_of h end).line x

-- a surface that exists where b holds
pub record IsThere (b : Bool) (Covers : Type 0) : Type 0 where
  pub there : IsTrue b
  pub covered : Covers

abbrev pub surface_if : Bool → Surface → Surface
surface_if b s = record { Covers = IsThere b s.Covers; Above = s.Above; AtOrAbove = s.AtOrAbove }

-- the surfaces at a point. 77.23 and 77.9(b)(3) are for the heliports that 77.9(d) describes: other heliports have no surfaces
abbrev pub pad_primary : Heliport → Point → Surface
pad_primary h x = surface_if (is_described h.category) (primary (landing_of h) (landing_offset h x))

abbrev pub pad_approach : Heliport → PadEnd → Point → Surface
pad_approach h end x = surface_if (is_described h.category) (approach (approach_of h end) (approach_offset h end x))

abbrev pub side_surface : Heliport → Beside → Point → Surface
side_surface h Primary x = primary_side (landing_of h) (landing_offset h x)
side_surface h ApproachOne x = approach_side (approach_of h One) (approach_offset h One x)
side_surface h ApproachTwo x = approach_side (approach_of h Two) (approach_offset h Two x)

abbrev pub pad_transition : Heliport → Beside → Point → Surface
pad_transition h beside x = surface_if (is_described h.category) (side_surface h beside x)

abbrev pub pad_notice : Heliport → Point → Surface
pad_notice h x = surface_if (is_described h.category) (notice (landing_of h) (landing_offset h x))

-- ---- the excess of a top over each surface, where it is exceeded, by tests that compute

abbrev pub excess_if : Bool → Option ℕ → Option ℕ
excess_if b e = if b then e else None

unfoldable pub pad_primary_excess : Heliport → Point → ℤ → Option ℕ
pad_primary_excess h x top = excess_if (is_described h.category) (excess_over_primary (landing_of h) (landing_offset h x) top)

unfoldable pub pad_approach_excess : Heliport → PadEnd → Point → ℤ → Option ℕ
pad_approach_excess h end x top = excess_if (is_described h.category) (excess_over_approach (approach_of h end) (approach_offset h end x) top)

abbrev pub excess_over_side : Heliport → Beside → Point → ℤ → Option ℕ
excess_over_side h Primary x top = excess_over_primary_side (landing_of h) (landing_offset h x) top
excess_over_side h ApproachOne x top = excess_over_approach_side (approach_of h One) (approach_offset h One x) top
excess_over_side h ApproachTwo x top = excess_over_approach_side (approach_of h Two) (approach_offset h Two x) top

unfoldable pub pad_transition_excess : Heliport → Beside → Point → ℤ → Option ℕ
pad_transition_excess h beside x top = excess_if (is_described h.category) (excess_over_side h beside x top)

unfoldable pub pad_notice_excess : Heliport → Point → ℤ → Option ℕ
pad_notice_excess h x top = excess_if (is_described h.category) (excess_over_notice (landing_of h) (landing_offset h x) top)

-- the excesses of a top over all surfaces of 77.23 at a point
pub record IsPadExcesses (h : Heliport) (x : Point) (top : ℤ) (e : PadExcesses) : Type 0 where
  pub primary_is : e.primary ≡ pad_primary_excess h x top
  pub approach1_is : e.approach1 ≡ pad_approach_excess h One x top
  pub approach2_is : e.approach2 ≡ pad_approach_excess h Two x top
  pub beside_primary_is : e.beside_primary ≡ pad_transition_excess h Primary x top
  pub beside_approach1_is : e.beside_approach1 ≡ pad_transition_excess h ApproachOne x top
  pub beside_approach2_is : e.beside_approach2 ≡ pad_transition_excess h ApproachTwo x top
