use Rattle.std.proofs.Common.{subst}
use Rattle.airfield_findings.proofs.EntryFacts.{where_ok}
use Rattle.desk_receipts.specs.Handed.{Told}
use Rattle.line_desk.specs.Desk.{Serving}
use Rattle.line_desk.proofs.QueryFacts.{err_shown}
use Rattle.line_desk.proofs.desk.LineDeskAnswering.answer_long.Goals as goal

pub returns-clause-reply : goal.returns-clause-reply
returns-clause-reply g c =
    where_ok c.append_too_long.result
    (λ answer. (answer.0, λ line long. record { step = answer.1 c.args.self.now line long; told = subst (λ (s : Serving _). Told g.K.Keeper.Tells s.keeper s.state) c.self.view_is c.keeper.ensures.told }, answer.2))
    c.append_too_long.ensures.ok

pub returns-clause-made : goal.returns-clause-made
returns-clause-made g c =
    err_shown c.append_too_long.result
    (λ made. (made.0, λ line long. record { step = made.1 c.args.self.now line long; told = subst (λ (s : Serving _). Told g.K.Keeper.Tells s.keeper s.state) c.self.view_is c.keeper.ensures.told }))
    c.append_too_long.ensures.made
