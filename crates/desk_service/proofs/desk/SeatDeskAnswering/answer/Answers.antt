use Rattle.std.proofs.Common.{subst}
use Rattle.desk_service.specs.Sittings.{Sitting}
use Rattle.desk_service.specs.Replies.{LineOver}
use Rattle.desk_service.proofs.Lines.{err_shown, on_ok}
use Rattle.desk_service.proofs.desk.SeatDeskAnswering.answer.Goals as goal

pub returns-clause-reply : goal.returns-clause-reply
returns-clause-reply g c =
    on_ok c.append_answer-answered.result
    (λ answer. (
      answer.text,
      subst (λ (s : Sitting _). LineOver g.F.Keeper.Keeper.Tells g.F.Keeper.Keeper.IsSteady g.F.Keeper.Keeper.faults g.J.Naming.first g.J.Naming.base g.J.Opening.opening s c.args.line.now answer.text c.append_answer-answered.new.place) c.self.view_is
          (record { replies = answer.replies; stands = c.stands.ensures }),
      answer.appended,
    ))
    c.append_answer-answered.ensures.ok

pub returns-clause-made : goal.returns-clause-made
returns-clause-made g c =
    err_shown c.append_answer-answered.result
    (λ made. (
      made.0,
      subst (λ (s : Sitting _). LineOver g.F.Keeper.Keeper.Tells g.F.Keeper.Keeper.IsSteady g.F.Keeper.Keeper.faults g.J.Naming.first g.J.Naming.base g.J.Opening.opening s c.args.line.now made.0 c.append_answer-answered.new.place) c.self.view_is
          (record { replies = made.1; stands = c.stands.ensures }),
    ))
    c.append_answer-answered.ensures.made
