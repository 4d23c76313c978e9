-- The horizontal and the conical surface of an airport: 77.19(a), (b).
use Rattle.std.specs.Prelude.{ℕ, ℤ, pos, ◌+ℤ◌, ◌-ℤ◌, ◌*◌, ◌≤ℤ◌, ◌≡◌, ◌⊎◌, List, Option, Bool, ◌&&◌, ◌||◌, not, int_le, unsigned_abs, if◌then◌else◌}
use Rattle.grid_exact.specs.declared.point.Point.{Point}
use Rattle.grid_exact.specs.declared.cap.Cap.{Cap}
use Rattle.grid_exact.specs.declared.cap.Cap.TheVariants.{Level, Beyond}
use Rattle.grid_exact.specs.Excess.{Surface, flat_surface, flat_excess_of, excess_of, most_excess, greatest_up_to}
use Rattle.center_polygon.specs.Somes.{SomeTwo, some_two}
use Rattle.center_polygon.specs.Triangles.{InSomeTriangle, in_some_triangle}
use Rattle.horizontal_hull.specs.declared.edge.Edge.{Edge}
use Rattle.horizontal_hull.specs.declared.edge.Edge.TheVariants.{Closed, Open}
use Rattle.horizontal_hull.specs.Arcs.{ArcShape, Dome, centers_of}
use Rattle.horizontal_hull.specs.Capsules.{InCapsule, in_capsule}
use Rattle.horizontal_hull.specs.declared.sizes.TheConstants.{CONICAL_RISE, CONICAL_RUN, CONICAL_SLOPE}

-- a point is at most c outside the arcs joined by their tangents: it lies in the tapered capsule of some two arcs with radii raised by
-- c, or in the closed triangle of some three of their centers. Each runway has two centers, so every disc lies in a capsule
unfoldable pub Within : Edge → List ArcShape → Point → ℕ → Type 0
Within edge arcs x c = SomeTwo (λ a b. InCapsule edge a b x c) arcs ⊎ InSomeTriangle (centers_of arcs) x

-- ---- the horizontal surface covers the area within the arcs and their tangents, at one level
abbrev pub horizontal : Dome → Point → Surface
horizontal d x = flat_surface (Within Closed d.arcs x 0) d.level

-- ---- the conical surface extends from there 4,000 feet outward, rising 20 to 1

pub record ConicalCovers (d : Dome) (x : Point) : Type 0 where
  pub within_outer : Within Closed d.arcs x CONICAL_RUN
  pub not_inner : ¬ Within Closed d.arcs x 0

-- the outward distance at which the conical surface has this level, which is in tenths of a foot
abbrev pub run_to : Dome → ℤ → ℕ
run_to d z = CONICAL_SLOPE * unsigned_abs (z -ℤ d.level)

pub record AtConical (d : Dome) (x : Point) (z : ℤ) : Type 0 where
  pub not_below : d.level ≤ℤ z
  pub within : Within Closed d.arcs x (run_to d z)

pub record AboveConical (d : Dome) (x : Point) (z : ℤ) : Type 0 where
  pub not_below : d.level ≤ℤ z
  pub strictly : Within Open d.arcs x (run_to d z)

abbrev pub conical : Dome → Point → Surface
conical d x = record { Covers = ConicalCovers d x; Above = AboveConical d x; AtOrAbove = AtConical d x }

-- ---- the upper end of both

-- the least level at or above the conical surface
pub record IsLeastConical (d : Dome) (x : Point) (z : ℤ) : Type 0 where
  pub reaches : AtConical d x z
  pub least : (y : ℤ) → AtConical d x y → z ≤ℤ y

-- the level of the horizontal surface where it covers the point, else the least level at or above the conical surface where that
-- covers it, else none
abbrev pub IsCap : Dome → Point → Cap → Type 0
IsCap d x (Level z) = (Within Closed d.arcs x 0 × (z ≡ d.level)) ⊎ (ConicalCovers d x × IsLeastConical d x z)
IsCap d x Beyond = ¬ Within Closed d.arcs x CONICAL_RUN

-- ---- the same predicates as tests that compute

unfoldable pub is_within : Edge → List ArcShape → Point → ℕ → Bool
is_within edge arcs x c = some_two (λ a b. in_capsule edge a b x c) arcs || in_some_triangle (centers_of arcs) x

unfoldable pub horizontal_excess : Dome → Point → ℤ → Option ℕ
horizontal_excess d x top = flat_excess_of (is_within Closed d.arcs x 0) d.level top

abbrev pub is_at_conical : Dome → Point → ℤ → Bool
is_at_conical d x z = int_le d.level z && is_within Closed d.arcs x (run_to d z)

abbrev pub is_above_conical : Dome → Point → ℤ → Bool
is_above_conical d x z = int_le d.level z && is_within Open d.arcs x (run_to d z)

abbrev pub conical_covers : Dome → Point → Bool
conical_covers d x = is_within Closed d.arcs x CONICAL_RUN && not (is_within Closed d.arcs x 0)

unfoldable pub conical_excess : Dome → Point → ℤ → Option ℕ
conical_excess d x top = excess_of (conical_covers d x) (is_above_conical d x) (is_at_conical d x) most_excess top

-- the least level's distance below the level of the outer edge, which is 200 feet above the horizontal surface
abbrev pub below_edge : Dome → Point → ℕ
below_edge d x = greatest_up_to (λ e. is_at_conical d x (d.level +ℤ pos CONICAL_RISE -ℤ pos e)) CONICAL_RISE

unfoldable pub cap_of : Dome → Point → Cap
cap_of d x =
    if is_within Closed d.arcs x 0 then Level d.level
    else if is_within Closed d.arcs x CONICAL_RUN then Level (d.level +ℤ pos CONICAL_RISE -ℤ pos (below_edge d x))
    else Beyond
