use Rattle.airfield_findings.proofs.EntryFacts.{where_ok}
use Rattle.line_desk.specs.Desk.{serving}
use Rattle.line_desk.proofs.QueryFacts.{on_err}
use Rattle.oe_asof.proofs.ServeFacts.{served_anyhow, served_step, told_anyhow, told_step, wanting_anyhow}
use Rattle.oe_asof.proofs.desk.DatedDeskAnswering.answer.Goals as goal

pub returns-then-asks_as_of-clause-reply : goal.returns-then-asks_as_of-clause-reply
returns-then-asks_as_of-clause-reply g c =
    where_ok c.append_told.result
    (told_step g.K.Keeper.Tells g.K.Keeper.IsSteady g.K.Keeper.faults c.self.inside.history.versions (serving c.self.inside.clerk) c.args.self.now c.args.line.now _ _ c.self.view_is
    (c.self.invariant (cc (c.if-not-self.false))) (cc (c.asks_as_of.ensures, c.if-asks_as_of.true)))
    c.append_told.ensures.ok

pub returns-clause-reply : goal.returns-clause-reply
returns-clause-reply g c =
    served_step g.K.Keeper.Tells g.K.Keeper.IsSteady g.K.Keeper.faults c.self.inside.history.versions c.serve-served.new.history.versions (serving c.self.inside.clerk) (serving c.serve-served.new.clerk) c.args.self.now
    c.args.line.now _ _ c.self.view_is (cc (c.asks_as_of.ensures, c.if-asks_as_of.false)) c.in_ok-served.ensures.all c.keeper-2.ensures.told c.in_ok-served.ensures.ok

pub returns-then-not-self-clause-made : goal.returns-then-not-self-clause-made
returns-then-not-self-clause-made g c =
    rw c.self.view_is at
    (wanting_anyhow g.K.Keeper.Tells g.K.Keeper.IsSteady g.K.Keeper.faults c.self.inside.history.versions (serving c.self.inside.clerk) c.args.self.now c.args.line.now c.self.view_is c.keeper.ensures.told)

pub returns-then-asks_as_of-clause-made : goal.returns-then-asks_as_of-clause-made
returns-then-asks_as_of-clause-made g c =
    on_err c.append_told.result
    (told_anyhow g.K.Keeper.Tells g.K.Keeper.IsSteady g.K.Keeper.faults c.self.inside.history.versions (serving c.self.inside.clerk) c.args.self.now c.args.line.now c.self.view_is
    (cc (c.asks_as_of.ensures, c.if-asks_as_of.true)))

pub returns-in_err-served-clause-made : goal.returns-in_err-served-clause-made
returns-in_err-served-clause-made g c =
    on_err c.from_residual.result
    (served_anyhow g.K.Keeper.Tells g.K.Keeper.IsSteady g.K.Keeper.faults c.self.inside.history.versions c.serve-served.new.history.versions (serving c.self.inside.clerk) (serving c.serve-served.new.clerk)
    c.args.self.now c.args.line.now c.self.view_is (cc (c.asks_as_of.ensures, c.if-asks_as_of.false)) c.in_err-served.ensures.same c.keeper-2.ensures.told c.in_err-served.ensures.made)
