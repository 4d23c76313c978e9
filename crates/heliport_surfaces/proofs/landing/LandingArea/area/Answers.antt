use Rattle.std.proofs.Common.{sym, subst}
use Rattle.grid_exact.specs.Lines.{offset}
use Rattle.outline_boxes.specs.Rectangles.{Rectangle, OnRectangle}
use Rattle.heliport_surfaces.specs.Shapes.{landing_shape}
use Rattle.heliport_surfaces.proofs.AreaFacts.{primary_on}
use Rattle.heliport_surfaces.proofs.landing.LandingArea.area.Goals as goal

pub returns-clause-covers : goal.returns-clause-covers
returns-clause-covers c = λ x h.
    let s = landing_shape c.args.self.now in
    c.area.ensures.has x (subst (λ (t : Rectangle). OnRectangle t (offset t.line x)) (sym c.outline.ensures) (primary_on s (offset s.line x) h))
