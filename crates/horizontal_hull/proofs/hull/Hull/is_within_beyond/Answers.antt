use Rattle.std.proofs.Common.{◌≡◌, ◌∙◌, List, ap, subst, sym}
use Rattle.center_polygon.specs.Somes.{some_two}
use Rattle.horizontal_hull.specs.Arcs.{ArcShape}
use Rattle.horizontal_hull.specs.Capsules.{in_capsule}
use Rattle.horizontal_hull.specs.Close.{AreClose}
use Rattle.horizontal_hull.proofs.WithinFacts.{within_beyond}
use Rattle.horizontal_hull.proofs.hull.Hull.is_within_beyond.Goals as goal

pub is_in_some_capsule-requires-clause-close : goal.is_in_some_capsule-requires-clause-close
is_in_some_capsule-requires-clause-close c =
    let same : c.as_slice.result.now ≡ c.args.self.now.arcs = c.as_slice.ensures ∙ ap (λ d. d.arcs) c.self.view_is in
    subst (λ (xs : List ArcShape). AreClose xs c.args.x.now) (sym same) (c.reaches.ensures.close c.if-not-reaches.false)

pub returns : goal.returns
returns c =
    let edge = c.args.edge in
    let x = c.args.x.now in
    let r = c.is_in_some_capsule.result in
    let same : c.as_slice.result.now ≡ c.args.self.now.arcs = c.as_slice.ensures ∙ ap (λ d. d.arcs) c.self.view_is in
    within_beyond edge c.args.self.now.arcs x c.args.c r c.requires.beyond (subst (λ (xs : List ArcShape). r ≡ some_two (λ a b. in_capsule edge a b x c.args.c) xs) same c.is_in_some_capsule.ensures)
