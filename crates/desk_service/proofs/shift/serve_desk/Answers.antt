use Rattle.std.proofs.Common.{subst}
use Rattle.link_gates.specs.Serving.{SessionOf, WorksOff}
use Rattle.http_session.specs.Replying.{Replies}
use Rattle.desk_service.proofs.SessionFacts.{works_on_part}
use Rattle.desk_service.proofs.shift.serve_desk.Goals as goal

pub returns-clause-works : goal.returns-clause-works
returns-clause-works g c =
    let left = g.P.Link.Source.left in
    let held = g.P.Link.Sink.held in
    let reads = g.P.Link.Source.faults in
    let writes = g.P.Link.Sink.faults in
    let step = Replies {St = g.row.A.Denot} g.A.Answering.step in (
      c.worker.new.desk.desk,
      subst
          (λ (s : g.row.A.Denot). WorksOff {St = g.row.A.Denot} {Link = g.row.P-Link.Denot}
          (λ s x ended t y. SessionOf {St = g.row.A.Denot} step ended s t (left x) (left y) (held x) (held y) (reads x) (reads y) (writes x) (writes y))
          s c.worker.new.desk.desk (g.P.Port.links c.args.port.now) (g.P.Port.links c.worker.new.port) (g.P.Port.given c.args.port.now) (g.P.Port.given c.worker.new.port) c.worker.result.served)
          c.new.ensures
          (works_on_part (λ s. s.desk) step left held reads writes c.new.result c.worker.new.desk _ _ _ _ _ c.worker.ensures.works),
    )
