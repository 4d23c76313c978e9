use Rattle.std.proofs.Common.{◌≡◌, ◌∙◌, ◌+◌, false, ℕ, List, ap, subst, sym}
use Rattle.grid_exact.specs.declared.point.Point.{Point}
use Rattle.center_polygon.specs.Somes.{some_two}
use Rattle.center_polygon.specs.Triangles.{in_some_triangle}
use Rattle.horizontal_hull.specs.Arcs.{ArcShape, centers_of}
use Rattle.horizontal_hull.specs.declared.sizes.TheConstants.{CONICAL_RISE}
use Rattle.horizontal_hull.specs.Close.{AreClose}
use Rattle.horizontal_hull.specs.Rises.{IsLeastRise, in_risen}
use Rattle.horizontal_hull.proofs.Rises.{no_rise, rise_in_triangle, rise_is}
use Rattle.horizontal_hull.proofs.hull.Hull.rise.Goals as goal

pub least_rise-rise-requires : goal.least_rise-rise-requires
least_rise-rise-requires c =
    let same : c.as_slice.result.now ≡ c.args.self.now.arcs = c.as_slice.ensures ∙ ap (λ d. d.arcs) c.self.view_is in
    record { close = subst (λ (xs : List ArcShape). AreClose xs c.args.x.now) (sym same) (c.reaches.ensures.close c.if-not-reaches.false) }

least : (arcs asked : List ArcShape) (x : Point) (rise : ℕ) → asked ≡ arcs → IsLeastRise (λ k. some_two (in_risen x k) asked) (CONICAL_RISE + 1) rise → IsLeastRise (λ k. some_two (in_risen x k) arcs) (CONICAL_RISE + 1) rise
least arcs asked x rise e h = subst (λ (xs : List ArcShape). IsLeastRise (λ k. some_two (in_risen x k) xs) (CONICAL_RISE + 1) rise) e h

pub returns-then-has_triangle : goal.returns-then-has_triangle
returns-then-has_triangle c =
    let tested : c.has_triangle.result ≡ in_some_triangle (centers_of c.args.self.now.arcs) c.args.x.now =
    c.has_triangle.ensures ∙ ap (λ d. in_some_triangle (centers_of d.arcs) c.args.x.now) c.self.view_is in
    rise_in_triangle c.args.self.now.arcs c.args.x.now c.has_triangle.result tested c.if-has_triangle.true

pub returns-then-rise-gt-CONICAL_RISE : goal.returns-then-rise-gt-CONICAL_RISE
returns-then-rise-gt-CONICAL_RISE c =
    let same : c.as_slice.result.now ≡ c.args.self.now.arcs = c.as_slice.ensures ∙ ap (λ d. d.arcs) c.self.view_is in
    let tested : c.has_triangle.result ≡ in_some_triangle (centers_of c.args.self.now.arcs) c.args.x.now =
    c.has_triangle.ensures ∙ ap (λ d. in_some_triangle (centers_of d.arcs) c.args.x.now) c.self.view_is in
    let apart : in_some_triangle (centers_of c.args.self.now.arcs) c.args.x.now ≡ false = sym tested ∙ c.if-has_triangle.false in
    no_rise c.args.self.now.arcs c.args.x.now c.least_rise-rise.result apart (least c.args.self.now.arcs c.as_slice.result.now c.args.x.now c.least_rise-rise.result same c.least_rise-rise.ensures) c.if-rise-gt-CONICAL_RISE.true

pub returns : goal.returns
returns c =
    let same : c.as_slice.result.now ≡ c.args.self.now.arcs = c.as_slice.ensures ∙ ap (λ d. d.arcs) c.self.view_is in
    let tested : c.has_triangle.result ≡ in_some_triangle (centers_of c.args.self.now.arcs) c.args.x.now =
    c.has_triangle.ensures ∙ ap (λ d. in_some_triangle (centers_of d.arcs) c.args.x.now) c.self.view_is in
    let apart : in_some_triangle (centers_of c.args.self.now.arcs) c.args.x.now ≡ false = sym tested ∙ c.if-has_triangle.false in
    rise_is c.args.self.now.arcs c.args.x.now c.least_rise-rise.result apart (least c.args.self.now.arcs c.as_slice.result.now c.args.x.now c.least_rise-rise.result same c.least_rise-rise.ensures) c.if-rise-gt-CONICAL_RISE.false
