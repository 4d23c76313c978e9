use Rattle.std.proofs.Common.{◌-◌, ◌≡◌, ◌≤◌, false}
use Rattle.link_gates.specs.Serving.{SessionOf, WorksOff}
use Rattle.link_gates.proofs.work.worker.Given as goal

abbrev pub decreases-loop-served : goal.decreases-loop-served
decreases-loop-served g l = l.turns - l.served

abbrev pub invariant-loop-served : goal.invariant-loop-served
invariant-loop-served g l =
    let left = g.P.Link.Source.left in
    let held = g.P.Link.Sink.held in
    let reads = g.P.Link.Source.faults in
    let writes = g.P.Link.Sink.faults in
    WorksOff {St = g.row.A.Denot} {Link = g.row.P-Link.Denot}
    (λ s x ended t y. SessionOf {St = g.row.A.Denot} g.A.Replying.step ended s t (left x) (left y) (held x) (held y) (reads x) (reads y) (writes x) (writes y))
    l.fn.desk l.desk (g.P.Port.links l.fn.port) (g.P.Port.links l.port) (g.P.Port.given l.fn.port) (g.P.Port.given l.port) l.served
    × (l.served ≤ l.turns) × (g.P.Port.faults l.fn.port ≤ g.P.Port.faults l.port) × (g.P.Port.IsSteady l.fn.port → g.P.Port.IsSteady l.port)
    × (g.P.Port.out l.fn.port ≡ false → g.P.Port.out l.port ≡ false)
