use Rattle.std.proofs.Common.{subst, sym}
use Rattle.horizontal_hull.specs.Arcs.{Dome}
use Rattle.grid_exact.specs.Area.{Has}
use Rattle.grid_exact.specs.declared.point.Point.{Point}
use Rattle.outline_boxes.specs.Bounds.{box_of}
use Rattle.horizontal_hull.specs.Close.{IsOuter}
use Rattle.horizontal_hull.proofs.hull.Hull.reaches.Goals as goal
use Rattle.horizontal_hull.proofs.hull.Hull.reaches.Goals.{After-has}

outer : (c : After-has) → IsOuter c.args.self.now.arcs (box_of c.self.inside.outer)
outer c = subst (λ (d : Dome). IsOuter d.arcs (box_of c.self.inside.outer)) c.self.view_is c.self.invariant.outer

pub returns-clause-close : goal.returns-clause-close
returns-clause-close c = λ t. (outer c).close c.args.x.now (subst (λ (p : Point). Has (box_of c.self.inside.outer) p) c.of.ensures (c.has.ensures.inside.0 t))

pub returns-clause-all : goal.returns-clause-all
returns-clause-all c = λ edge n l w. c.has.ensures.inside.1 (subst (λ (p : Point). Has (box_of c.self.inside.outer) p) (sym c.of.ensures) ((outer c).all edge c.args.x.now n l w))
