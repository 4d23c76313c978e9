use Rattle.std.proofs.Common.{subst}
use Rattle.airfield_findings.proofs.EntryFacts.{where_ok}
use Rattle.line_desk.specs.Desk.{Serving}
use Rattle.line_desk.proofs.QueryFacts.{on_err}
use Rattle.desk_receipts.specs.Handed.{Told}
use Rattle.oe_asof.specs.Sessions.{Dating}
use Rattle.oe_asof.proofs.ServeFacts.{long_refused}
use Rattle.oe_asof.proofs.desk.DatedDeskAnswering.answer_long.Goals as goal

pub returns-clause-reply : goal.returns-clause-reply
returns-clause-reply g c =
    where_ok c.append_refused.result
    (λ t. (
      _,
      λ line long. long_refused g.K.Keeper.Tells g.K.Keeper.IsSteady g.K.Keeper.faults c.args.self.now line long
          (subst (λ (d : Dating (Serving _)). Told g.K.Keeper.Tells d.serving.keeper d.serving.state) c.self.view_is c.keeper.ensures.told),
      t,
    )) c.append_refused.ensures.ok

pub returns-clause-made : goal.returns-clause-made
returns-clause-made g c =
    on_err c.append_refused.result (
      _,
      λ line long. long_refused g.K.Keeper.Tells g.K.Keeper.IsSteady g.K.Keeper.faults c.args.self.now line long
          (subst (λ (d : Dating (Serving _)). Told g.K.Keeper.Tells d.serving.keeper d.serving.state) c.self.view_is c.keeper.ensures.told),
    )
