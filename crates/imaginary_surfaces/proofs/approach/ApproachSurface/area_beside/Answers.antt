use Rattle.std.proofs.Common.{pos, sym, subst}
use Rattle.grid_exact.specs.Area.{Has}
use Rattle.grid_exact.specs.Lines.{offset}
use Rattle.grid_exact.specs.declared.point.Point.{Point}
use Rattle.outline_boxes.specs.Boxes.{IsLeastBox}
use Rattle.outline_boxes.specs.Trapezoids.{Trapezoid, HasBoxAndTrapezoid, OnTrapezoid}
use Rattle.imaginary_surfaces.specs.Areas.{approach_outline}
use Rattle.imaginary_surfaces.specs.Shapes.{approach_shape}
use Rattle.imaginary_surfaces.proofs.AreaFacts.{beside_precision_in, precision_least}
use Rattle.imaginary_surfaces.proofs.approach.ApproachSurface.area_beside.Goals as goal

pub returns-then-self-clause-exact : goal.returns-then-self-clause-exact
returns-then-self-clause-exact c =
    let a = approach_shape c.args.self.now in
    let hull = c.args.hull.now in
    precision_least a hull c.area_with.result c.if-self.true
    (subst (λ (t : Trapezoid). IsLeastBox (HasBoxAndTrapezoid hull t) c.area_with.result) c.outline.ensures c.area_with.ensures.exact)

pub returns-then-self-clause-covers : goal.returns-then-self-clause-covers
returns-then-self-clause-covers c = λ x cap h k.
    let s = c.args.self.now in
    let a = approach_shape s in
    let box = c.area_with.result in
    let on : (y : Point) → OnTrapezoid (approach_outline a (pos 2000000)) (offset a.line y) → Has box y = λ y o.
    c.area_with.ensures.has y (subst (λ (t : Trapezoid). OnTrapezoid t (offset t.line y)) (sym c.outline.ensures) o) in
    beside_precision_in a x cap c.args.hull.now box s.z s.sound c.area_with.ensures.held on h k
