use Rattle.std.proofs.Common.{subst}
use Rattle.desk_service.specs.Sittings.{Sitting, Stands}
use Rattle.desk_service.proofs.Lines.{err_shown, on_ok}
use Rattle.desk_service.proofs.desk.SeatDeskAnswering.answer_long.Goals as goal

pub returns-clause-reply : goal.returns-clause-reply
returns-clause-reply g c =
    on_ok c.append_too_long.result
    (λ answer. (answer.0, λ line long. record { replies = answer.1 c.args.self.now line long; stands = subst (λ (s : Sitting _). Stands g.F.Keeper.Keeper.Tells g.J.Opening.opening s) c.self.view_is c.stands.ensures }, answer.2))
    c.append_too_long.ensures.ok

pub returns-clause-made : goal.returns-clause-made
returns-clause-made g c =
    err_shown c.append_too_long.result
    (λ made. (made.0, λ line long. record { replies = made.1 c.args.self.now line long; stands = subst (λ (s : Sitting _). Stands g.F.Keeper.Keeper.Tells g.J.Opening.opening s) c.self.view_is c.stands.ensures }))
    c.append_too_long.ensures.made
