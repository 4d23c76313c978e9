use Rattle.std.proofs.Common.{◌≡◌, ◌∙◌, Option, Some, None, [], List, ap, subst}
use Rattle.std.specs.Prelude.{IfSome}
use Rattle.std.specs.Option.{MatchOption}
use Rattle.horizontal_hull.specs.declared.areas.HullAreas.{HullAreas}
use Rattle.horizontal_hull.specs.Arcs.{ArcShape, Dome}
use Rattle.horizontal_hull.specs.Areas.{AreHullAreas, CoverHull}
use Rattle.horizontal_hull.proofs.Reach.{areas_cover}
use Rattle.horizontal_hull.proofs.hull.Hull.areas.Goals as goal
use Rattle.horizontal_hull.proofs.hull.Hull.areas.Goals.{After-areas}

cover : (d : Dome) (a : Option HullAreas) → MatchOption a (d.arcs ≡ []) (AreHullAreas d.arcs) → IfSome a (CoverHull d)
cover d None h = tt
cover d (Some a) h = areas_cover d a h

exact : (c : After-areas) → MatchOption c.areas.result (c.args.self.now.arcs ≡ []) (AreHullAreas c.args.self.now.arcs)
exact c =
    let same : c.as_slice.result.now ≡ c.args.self.now.arcs = c.as_slice.ensures ∙ ap (λ d. d.arcs) c.self.view_is in
    subst (λ (xs : List ArcShape). MatchOption c.areas.result (xs ≡ []) (AreHullAreas xs)) same c.areas.ensures

pub returns-clause-exact : goal.returns-clause-exact
returns-clause-exact c = exact c

pub returns-clause-covers : goal.returns-clause-covers
returns-clause-covers c = cover c.args.self.now c.areas.result (exact c)
