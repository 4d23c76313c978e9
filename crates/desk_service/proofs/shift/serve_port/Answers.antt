use Rattle.std.proofs.Common.{ap}
use Rattle.desk_service.specs.Sittings.{Sitting}
use Rattle.desk_service.proofs.shift.serve_port.Goals as goal

pub returns-clause-works : goal.returns-clause-works
returns-clause-works g c = (
  c.over-desk.result,
  c.serve_desk.ensures.works.0,
  ap (λ (s : Sitting g.row.K.Denot). s.front) c.over-desk.ensures,
  ap (λ (s : Sitting g.row.K.Denot). s.told) c.over-desk.ensures,
  c.serve_desk.ensures.works.1,
)
