use Rattle.outline_boxes.specs.Shapes.{trapezoid_shape}
use Rattle.outline_boxes.proofs.More.{Has_more, with_box}
use Rattle.outline_boxes.proofs.trapezoid.TrapezoidOutline.area_with.Goals as goal

pub returns-clause-exact : goal.returns-clause-exact
returns-clause-exact c =
    let s = c.args.self.now in
    with_box c.args.held.now c.area.result c.joined.result (trapezoid_shape s) s.sized.scale_least c.area.ensures.exact c.joined.ensures.exact

pub returns-clause-held : goal.returns-clause-held
returns-clause-held c = λ x h. Has_more c.joined.result c.args.held.now x c.joined.ensures.exact.holds.first h
