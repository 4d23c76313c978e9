use Rattle.std.proofs.Common.{subst}
use Rattle.line_desk.specs.Desk.{Serving}
use Rattle.oe_asof.specs.Sessions.{DatedOver, Dating, SessionOf}
use Rattle.oe_asof.proofs.session.session.Goals as goal

pub returns-clause-told : goal.returns-clause-told
returns-clause-told g c =
    subst
    (λ (s : Dating (Serving _)).
    SessionOf (DatedOver g.K.Keeper.Tells g.K.Keeper.IsSteady g.K.Keeper.faults) s c.records.result (g.S.Source.left c.args.input.now) (g.S.Source.left c.records.new.input) (g.O.Sink.held c.args.output.now)
    (g.O.Sink.held c.records.new.output)) c.over.ensures
    (record {
      closed = λ e. (c.records.new.desk, c.records.ensures.closed e);
      begun = c.records.ensures.begun;
      written = (c.records.new.desk, c.records.ensures.written);
    })
