-- Triangles of three spots.
use Rattle.std.specs.Prelude.{ℤ, pos, ◌-ℤ◌, ◌≤ℤ◌, ◌<ℤ◌, ◌⊎◌, List, int_le, int_lt, Bool, ◌&&◌, ◌||◌}
use Rattle.grid_exact.specs.declared.point.Point.{Point}
use Rattle.grid_exact.specs.Vector.{across_of}
use Rattle.center_polygon.specs.Spots.{Spot, at}
use Rattle.center_polygon.specs.Somes.{SomeThree, some_three}

-- twice the signed area of the triangle of three spots: positive where the third lies to the left of the vector from the first to the
-- second, which is also where the first lies to the left of the vector from the second to the third
abbrev pub turn : Spot → Spot → Spot → ℤ
turn a b d = across_of (b.x -ℤ a.x) (b.y -ℤ a.y) (d.x -ℤ a.x) (d.y -ℤ a.y)

-- the three spots are not on one line and turn to the left, and the fourth is outside no side of their triangle
pub record IsInside (a b d x : Spot) : Type 0 where
  pub proper : pos 0 <ℤ turn a b d
  pub first : pos 0 ≤ℤ turn x a b
  pub second : pos 0 ≤ℤ turn x b d
  pub third : pos 0 ≤ℤ turn x d a

-- the closed triangle of three spots that are not on one line, in either order
abbrev pub InTriangle : Spot → Spot → Spot → Spot → Type 0
InTriangle a b d x = IsInside a b d x ⊎ IsInside a d b x

-- the convex polygon of some spots: a point lies in the closed triangle of some three of them
unfoldable pub InSomeTriangle : List Spot → Point → Type 0
InSomeTriangle spots x = SomeThree (λ a b d. InTriangle a b d (at x)) spots

-- ---- the same predicates as tests that compute

abbrev pub is_inside : Spot → Spot → Spot → Spot → Bool
is_inside a b d x = (int_lt (pos 0) (turn a b d) && int_le (pos 0) (turn x a b)) && (int_le (pos 0) (turn x b d) && int_le (pos 0) (turn x d a))

unfoldable pub in_triangle : Spot → Spot → Spot → Spot → Bool
in_triangle a b d x = is_inside a b d x || is_inside a d b x

unfoldable pub in_some_triangle : List Spot → Point → Bool
in_some_triangle spots x = some_three (λ a b d. in_triangle a b d (at x)) spots

-- three spots are not on one line
abbrev pub is_bent : Spot → Spot → Spot → Bool
is_bent a b d = int_lt (pos 0) (turn a b d) || int_lt (pos 0) (turn a d b)
