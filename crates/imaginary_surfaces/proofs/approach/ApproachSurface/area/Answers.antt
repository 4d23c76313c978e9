use Rattle.std.proofs.Common.{sym, subst}
use Rattle.grid_exact.specs.Lines.{offset}
use Rattle.outline_boxes.specs.Trapezoids.{Trapezoid, OnTrapezoid}
use Rattle.imaginary_surfaces.specs.Shapes.{approach_shape}
use Rattle.imaginary_surfaces.proofs.AreaFacts.{approach_on}
use Rattle.imaginary_surfaces.proofs.approach.ApproachSurface.area.Goals as goal

pub returns-clause-covers : goal.returns-clause-covers
returns-clause-covers c = λ x h.
    let s = c.args.self.now in
    let a = approach_shape s in
    c.area.ensures.has x (subst (λ (t : Trapezoid). OnTrapezoid t (offset t.line x)) (sym c.outline.ensures) (approach_on a (offset a.line x) s.z s.sound h))
