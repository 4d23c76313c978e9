use Rattle.std.proofs.Common.{sym, subst}
use Rattle.grid_exact.specs.Lines.{offset}
use Rattle.outline_boxes.specs.Trapezoids.{Trapezoid, OnTrapezoid}
use Rattle.heliport_surfaces.specs.Shapes.{approach_shape}
use Rattle.heliport_surfaces.proofs.AreaFacts.{approach_side_on}
use Rattle.heliport_surfaces.proofs.approach.PadApproach.area_beside.Goals as goal

pub returns-clause-covers : goal.returns-clause-covers
returns-clause-covers c = λ x h.
    let s = approach_shape c.args.self.now in
    c.area.ensures.has x (subst (λ (t : Trapezoid). OnTrapezoid t (offset t.line x)) (sym c.side_outline.ensures) (approach_side_on s (offset s.line x) h))
