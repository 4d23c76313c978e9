use Rattle.std.proofs.Common.{subst}
use Rattle.airfield_findings.proofs.EntryFacts.{where_ok}
use Rattle.line_desk.specs.Desk.{Serving, StepOver, serving}
use Rattle.line_desk.proofs.QueryFacts.{err_shown}
use Rattle.line_desk.proofs.desk.LineDeskAnswering.answer.Goals as goal

pub returns-clause-reply : goal.returns-clause-reply
returns-clause-reply g c =
    where_ok c.append_answer-answered.result
    (λ answer. (
      answer.reply,
      subst (λ (s : Serving _). StepOver g.K.Keeper.Tells g.K.Keeper.IsSteady g.K.Keeper.faults s c.args.line.now answer.reply (serving c.append_answer-answered.new.clerk)) c.self.view_is
          (record { step = answer.step; told = c.keeper.ensures.told }),
      answer.appended,
    ))
    c.append_answer-answered.ensures.ok

pub returns-clause-made : goal.returns-clause-made
returns-clause-made g c =
    err_shown c.append_answer-answered.result
    (λ made. (
      made.0,
      subst (λ (s : Serving _). StepOver g.K.Keeper.Tells g.K.Keeper.IsSteady g.K.Keeper.faults s c.args.line.now made.0 (serving c.append_answer-answered.new.clerk)) c.self.view_is
          (record { step = made.1; told = c.keeper.ensures.told }),
    ))
    c.append_answer-answered.ensures.made
