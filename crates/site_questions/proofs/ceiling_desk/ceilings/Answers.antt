use Rattle.std.proofs.Common.{subst}
use Rattle.oe_http.specs.Session.{Answered, WritesWhole}
use Rattle.site_questions.specs.Charts.{Chart}
use Rattle.site_questions.specs.Ceilings.{CeilingStep}
use Rattle.site_questions.proofs.ceiling_desk.ceilings.Goals as goal

pub returns-clause-closed : goal.returns-clause-closed
returns-clause-closed g c = λ e. (
  c.records.new.desk,
  subst (λ (s : Chart). Answered CeilingStep s c.records.new.desk (g.S.Source.left c.args.input.now) (g.O.Sink.held c.args.output.now) (g.O.Sink.held c.records.new.output)) c.over.ensures
      (c.records.ensures.closed e),
)

pub returns-clause-written : goal.returns-clause-written
returns-clause-written g c = (
  c.records.new.desk,
  subst
      (λ (s : Chart).
      WritesWhole CeilingStep s c.records.new.desk c.records.result (g.S.Source.left c.args.input.now) (g.S.Source.left c.records.new.input) (g.O.Sink.held c.args.output.now) (g.O.Sink.held c.records.new.output))
      c.over.ensures c.records.ensures.written,
)
