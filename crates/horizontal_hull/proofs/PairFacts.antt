-- The arcs of one runway have no three centers, and so no triangle; nor has none.
use Rattle.std.proofs.Common.{◌≡◌, List, [], ◌∷◌, false, length, arith, refl}
use Rattle.grid_exact.specs.declared.point.Point.{Point}
use Rattle.center_polygon.specs.Triangles.{in_some_triangle}
use Rattle.horizontal_hull.specs.Arcs.{ArcShape, centers_of}

pub none_flat : (x : Point) → false ≡ in_some_triangle (centers_of []) x
unfolding in_some_triangle
none_flat x = refl

pub pair_flat : (arcs : List ArcShape) (x : Point) → length arcs ≡ 2 → false ≡ in_some_triangle (centers_of arcs) x
unfolding in_some_triangle
pair_flat [] x e = refl
pair_flat (a ∷ []) x e = refl
pair_flat (a ∷ b ∷ []) x e = refl
pair_flat (a ∷ b ∷ d ∷ rest) x e = absurd (omega (arith, e))
