use Rattle.line_desk.specs.Desk.{serving}
use Rattle.oe_asof.specs.Sessions.{DatedOver, opened_over}
use Rattle.oe_asof.proofs.OpeningFacts.{unopened}
use Rattle.oe_asof.proofs.session.dated_records.Goals as goal

pub returns-in-Err-clause-told : goal.returns-in-Err-clause-told
returns-in-Err-clause-told g c =
    unopened (DatedOver g.K.Keeper.Tells g.K.Keeper.IsSteady g.K.Keeper.faults) (opened_over (serving c.args.clerk)) (g.O.Sink.held c.args.output.now) (g.S.Source.left c.args.input.now)
