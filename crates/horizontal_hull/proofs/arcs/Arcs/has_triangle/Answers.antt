use Rattle.std.proofs.Common.{◌≡◌, false, List, [], length, subst}
use Rattle.center_polygon.specs.Triangles.{in_some_triangle}
use Rattle.horizontal_hull.specs.Arcs.{ArcShape, centers_of}
use Rattle.horizontal_hull.proofs.PairFacts.{none_flat, pair_flat}
use Rattle.horizontal_hull.proofs.arcs.Arcs.has_triangle.Goals as goal

pub returns-in-Absent : goal.returns-in-Absent
returns-in-Absent c =
    let same : [] ≡ c.args.self.now = rw c.in-Absent.is at c.self.view_is in
    subst (λ (arcs : List ArcShape). false ≡ in_some_triangle (centers_of arcs) c.args.x.now) same (none_flat c.args.x.now)

pub returns-in-Pair : goal.returns-in-Pair
returns-in-Pair c =
    let same : c.in-Pair.field-0 ≡ c.args.self.now = rw c.in-Pair.is at c.self.view_is in
    let two : length c.in-Pair.field-0 ≡ 2 = rw c.in-Pair.is at c.self.invariant in
    subst (λ (arcs : List ArcShape). false ≡ in_some_triangle (centers_of arcs) c.args.x.now) same (pair_flat c.in-Pair.field-0 c.args.x.now two)
