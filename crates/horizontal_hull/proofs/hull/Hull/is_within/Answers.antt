use Rattle.std.proofs.Common.{◌≡◌, ◌∙◌, List, ap, subst, sym}
use Rattle.grid_exact.proofs.Booleans.{not_from_false}
use Rattle.center_polygon.specs.Somes.{some_two}
use Rattle.center_polygon.specs.Triangles.{in_some_triangle}
use Rattle.horizontal_hull.specs.Arcs.{ArcShape, centers_of}
use Rattle.horizontal_hull.specs.Capsules.{in_capsule}
use Rattle.horizontal_hull.specs.Close.{AreClose}
use Rattle.horizontal_hull.proofs.WithinFacts.{not_within, within_by_capsule, within_by_triangle}
use Rattle.horizontal_hull.proofs.hull.Hull.is_within.Goals as goal

pub returns-then-not-reaches : goal.returns-then-not-reaches
returns-then-not-reaches c =
    not_within c.args.edge c.args.self.now.arcs c.args.x.now c.args.c (not_from_false c.reaches.result (c.reaches.ensures.all c.args.edge c.args.c c.requires.run) c.if-not-reaches.true)

pub returns-then-has_triangle : goal.returns-then-has_triangle
returns-then-has_triangle c =
    let x = c.args.x.now in
    let tested : c.has_triangle.result ≡ in_some_triangle (centers_of c.args.self.now.arcs) x =
    c.has_triangle.ensures ∙ ap (λ d. in_some_triangle (centers_of d.arcs) x) c.self.view_is in
    within_by_triangle c.args.edge c.args.self.now.arcs x c.args.c c.has_triangle.result tested c.if-has_triangle.true

pub is_in_some_capsule-requires-clause-close : goal.is_in_some_capsule-requires-clause-close
is_in_some_capsule-requires-clause-close c =
    let same : c.as_slice.result.now ≡ c.args.self.now.arcs = c.as_slice.ensures ∙ ap (λ d. d.arcs) c.self.view_is in
    subst (λ (xs : List ArcShape). AreClose xs c.args.x.now) (sym same) (c.reaches.ensures.close c.if-not-reaches.false)

pub returns : goal.returns
returns c =
    let edge = c.args.edge in
    let x = c.args.x.now in
    let r = c.is_in_some_capsule.result in
    let same : c.as_slice.result.now ≡ c.args.self.now.arcs = c.as_slice.ensures ∙ ap (λ d. d.arcs) c.self.view_is in
    let tested : c.has_triangle.result ≡ in_some_triangle (centers_of c.args.self.now.arcs) x =
    c.has_triangle.ensures ∙ ap (λ d. in_some_triangle (centers_of d.arcs) x) c.self.view_is in
    within_by_capsule edge c.args.self.now.arcs x c.args.c r c.has_triangle.result tested c.if-has_triangle.false (subst (λ (xs : List ArcShape). r ≡ some_two (λ a b. in_capsule edge a b x c.args.c) xs) same c.is_in_some_capsule.ensures)
