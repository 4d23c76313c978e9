use Rattle.desk_service.proofs.LineFacts.{told, not_begun}
use Rattle.desk_service.proofs.service.serve.Goals as goal

pub returns-in-Ok-clause-serves : goal.returns-in-Ok-clause-serves
returns-in-Ok-clause-serves g c =
    told c.args.plan.now.workers c.args.plan.now.turns (g.G.Gate.lists c.args.gate.now) c.in-Ok.worked.served c.tell.result (g.O.Sink.held c.args.output.now)
    (g.O.Sink.held c.tell.new.output) c.tell.ensures.tells (λ e all is. c.in-Ok.ensures.count all is (c.tell.ensures.done e))

pub returns-in-Err-clause-serves : goal.returns-in-Err-clause-serves
returns-in-Err-clause-serves g c = not_begun _ _ _ _
