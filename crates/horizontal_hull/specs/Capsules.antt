-- Discs about centers of arcs, and the band between the tangents of two arcs: 77.19(a), (b).
use Rattle.std.specs.Prelude.{ℕ, ℤ, pos, neg_ℤ, ◌+◌, ◌-◌, ◌*◌, ◌≤◌, ◌<◌, ◌+ℤ◌, ◌-ℤ◌, ◌*ℤ◌, unsigned_abs, ◌⊎◌, nat_le, nat_lt, Bool, ◌&&◌, ◌||◌, if◌then◌else◌}
use Rattle.std.specs.Bool.{MatchBool}
use Rattle.grid_exact.specs.declared.point.Point.{Point}
use Rattle.grid_exact.specs.Root.{AtMostRoot, AtLeastRoot, AboveRoot}
use Rattle.grid_exact.specs.Excess.{is_above_root, is_at_least_root, is_at_most_root}
use Rattle.grid_exact.specs.Vector.{along_of, across_of, length_of}
use Rattle.horizontal_hull.specs.declared.edge.Edge.{Edge}
use Rattle.horizontal_hull.specs.declared.edge.Edge.TheVariants.{Closed, Open}
use Rattle.horizontal_hull.specs.Arcs.{ArcShape}

-- the square of the distance from a center to a point
abbrev pub distance_away : ArcShape → Point → ℕ
distance_away a x = length_of (x.x -ℤ a.x) (x.y -ℤ a.y)

-- a point is at most c outside the arc: in its disc with the radius raised by c, with its edge or without
abbrev pub InDisc : Edge → ArcShape → Point → ℕ → Type 0
InDisc Closed a x c = distance_away a x ≤ (a.radius + c) * (a.radius + c)
InDisc Open a x c = distance_away a x < (a.radius + c) * (a.radius + c)

-- ---- two arcs; the first radius is at most the second

-- the square of the distance between the centers
abbrev pub span : ArcShape → ArcShape → ℕ
span a b = length_of (b.x -ℤ a.x) (b.y -ℤ a.y)

-- the second radius minus the first
abbrev pub flare : ArcShape → ArcShape → ℕ
flare a b = b.radius - a.radius

-- the square of the length of a tangent of both
abbrev pub tangent : ArcShape → ArcShape → ℕ
tangent a b = span a b - flare a b * flare a b

-- the position of a point along and beside the line from the first center to the second, both times their distance
abbrev pub distance_ahead : ArcShape → ArcShape → Point → ℤ
distance_ahead a b x = along_of (b.x -ℤ a.x) (b.y -ℤ a.y) (x.x -ℤ a.x) (x.y -ℤ a.y)

abbrev pub distance_aside : ArcShape → ArcShape → Point → ℕ
distance_aside a b x = unsigned_abs (across_of (b.x -ℤ a.x) (b.y -ℤ a.y) (x.x -ℤ a.x) (x.y -ℤ a.y))

-- the distance of a tangent, of the arcs with radii raised by c, to the side of that line at the point, times the distance between the
-- centers and the length of the tangent
abbrev pub tangent_reach : ArcShape → ArcShape → Point → ℕ → ℤ
tangent_reach a b x c = pos ((a.radius + c) * span a b) +ℤ pos (flare a b) *ℤ distance_ahead a b x

-- a >= b * sqrt(n), or a > b * sqrt(n) without the edge
abbrev pub ReachesRoot : Edge → ℤ → ℕ → ℕ → Type 0
ReachesRoot Closed a b n = AtLeastRoot a (pos b) n
ReachesRoot Open a b n = AboveRoot a (pos b) n

-- the point is not outside that tangent
abbrev pub IsUnderTangent : Edge → ArcShape → ArcShape → Point → ℕ → Type 0
IsUnderTangent edge a b x c = ReachesRoot edge (tangent_reach a b x c) (distance_aside a b x) (tangent a b)

-- the point lies between the two tangents and between their touching points
pub record InBand (edge : Edge) (a b : ArcShape) (x : Point) (c : ℕ) : Type 0 where
  pub after : AtMostRoot (neg_ℤ (pos (flare a b * distance_aside a b x))) (distance_ahead a b x) (tangent a b)
  pub before : AtMostRoot (pos (flare a b * distance_aside a b x)) (pos (span a b) -ℤ distance_ahead a b x) (tangent a b)
  pub under : IsUnderTangent edge a b x c

-- the tapered capsule: the larger disc, and where it does not contain the smaller one, also that disc and the band between the tangents
abbrev pub InTapered : Edge → ArcShape → ArcShape → Point → ℕ → Type 0
InTapered edge a b x c = InDisc edge b x c ⊎ ((flare a b * flare a b < span a b) × (InDisc edge a x c ⊎ InBand edge a b x c))

-- the tapered capsule of two arcs in either order
abbrev pub InCapsule : Edge → ArcShape → ArcShape → Point → ℕ → Type 0
InCapsule edge a b x c = MatchBool (nat_le a.radius b.radius) (InTapered edge a b x c) (InTapered edge b a x c)

-- ---- the same predicates as tests that compute

abbrev pub in_disc : Edge → ArcShape → Point → ℕ → Bool
in_disc Closed a x c = nat_le (distance_away a x) ((a.radius + c) * (a.radius + c))
in_disc Open a x c = nat_lt (distance_away a x) ((a.radius + c) * (a.radius + c))

abbrev pub reaches_root : Edge → ℤ → ℕ → ℕ → Bool
reaches_root Closed a b n = is_at_least_root a (pos b) n
reaches_root Open a b n = is_above_root a (pos b) n

abbrev pub in_band : Edge → ArcShape → ArcShape → Point → ℕ → Bool
in_band edge a b x c =
    is_at_most_root (neg_ℤ (pos (flare a b * distance_aside a b x))) (distance_ahead a b x) (tangent a b)
    && is_at_most_root (pos (flare a b * distance_aside a b x)) (pos (span a b) -ℤ distance_ahead a b x) (tangent a b)
    && reaches_root edge (tangent_reach a b x c) (distance_aside a b x) (tangent a b)

abbrev pub in_tapered : Edge → ArcShape → ArcShape → Point → ℕ → Bool
in_tapered edge a b x c = in_disc edge b x c || (nat_lt (flare a b * flare a b) (span a b) && (in_disc edge a x c || in_band edge a b x c))

unfoldable pub in_capsule : Edge → ArcShape → ArcShape → Point → ℕ → Bool
in_capsule edge a b x c = if nat_le a.radius b.radius then in_tapered edge a b x c else in_tapered edge b a x c
