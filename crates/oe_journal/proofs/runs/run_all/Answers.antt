use Rattle.std.proofs.Common.{◌≡◌, [], ◌∷◌, ◌++◌, inl, refl, length, sym, ap, subst, ◌∙◌, arith, length-append}
use Rattle.oe_journal.specs.Journal.{acknowledged_by}
use Rattle.oe_journal.proofs.Loaded.{loaded_of}
use Rattle.oe_journal.proofs.Moments.{on_err}
use Rattle.oe_journal.specs.Runs.{Stand, just_loaded, after_one, after_all, StandsSo, AreMade}
use Rattle.oe_journal.proofs.Following.{IsFollowed, call_on, nothing_called, now_is, made_now}
use Rattle.oe_journal.proofs.runs.run_all.Goals as goal

pub calls-init : goal.calls-init
calls-init g c =
    let d = g.D.Disk in
    let k = c.args.keeper.now in
    let calls = c.args.calls.now in
    let start : Stand = just_loaded (acknowledged_by d.content k) in
    let none = c.new-answers.ensures.items in
    let is : after_all start calls c.new-answers.result.items ≡ start = ap (after_all start calls) none ∙ nothing_called start calls in
    record {
      opened = (loaded_of d.IsTold d.content d.MayLeave k c.requires.loaded).is_open;
      loaded = λ _. c.requires.loaded;
      flag = ap (λ (s : Stand). s.is_loaded) is;
      count = ap length none;
      stands = λ told. subst (StandsSo d.IsTold d.content d.MayLeave k) (sym is) (record { acknowledges = λ _. refl; may_stand = λ rows stand. inl ((c.requires.fresh told).stands rows stand); telling = λ _ _. refl });
      made = subst (λ answers. AreMade d.IsTold d.TellsPast d.content d.MayLeave d.moment d.LeftSince d.faults k start calls answers k) (sym none) refl;
    }

pub calls-preserved : goal.calls-preserved
calls-preserved g c =
    let d = g.D.Disk in
    let first = c.args.keeper.now in
    let k = c.calls.keeper in
    let new = c.call_one-answer.new.keeper in
    let calls = c.args.calls.now in
    let start : Stand = just_loaded (acknowledged_by d.content first) in
    let before = c.calls.answers.items in
    let after = c.push.new.self.items in
    let call = c.call-item.result in
    let answer = c.call_one-answer.result in
    let inv = c.calls.invariant in
    let pushed : after ≡ before ++ answer ∷ [] = c.in_ok-push.ensures.items in
    let count = inv.count in
    let len = ap length pushed ∙ length-append before (answer ∷ []) in
    let on : IsFollowed start calls before after call answer = call_on start calls before after answer call c.calls.call-index pushed count c.calls-test.true c.call-item.is in
    let stand : Stand = after_all start calls before in
    let is : after_all start calls after ≡ after_one stand call answer = now_is start calls before after call answer on in
    let one = c.call_one-answer.ensures.made stand inv.flag inv.stands in
    record {
      opened = c.call_one-answer.ensures.open;
      loaded = c.call_one-answer.ensures.loaded;
      flag = ap (λ (s : Stand). s.is_loaded) is ∙ c.call_one-answer.ensures.flag stand inv.flag;
      count = omega arith;
      stands = λ told. subst (StandsSo d.IsTold d.content d.MayLeave new) (sym is) (one.stands told);
      made = made_now d.IsTold d.TellsPast d.content d.MayLeave d.moment d.LeftSince d.faults first start calls before after call answer k new on inv.made one;
    }

pub returns-in_err-push-clause-unkept : goal.returns-in_err-push-clause-unkept
returns-in_err-push-clause-unkept g c =
    let d = g.D.Disk in
    let first = c.args.keeper.now in
    let k = c.calls.keeper in
    let new = c.call_one-answer.new.keeper in
    let calls = c.args.calls.now in
    let start : Stand = just_loaded (acknowledged_by d.content first) in
    let before = c.calls.answers.items in
    let call = c.call-item.result in
    let answer = c.call_one-answer.result in
    let after = before ++ answer ∷ [] in
    let inv = c.calls.invariant in
    let on : IsFollowed start calls before after call answer = call_on start calls before after answer call c.calls.call-index refl inv.count c.calls-test.true c.call-item.is in
    let one = c.call_one-answer.ensures.made (after_all start calls before) inv.flag inv.stands in
    on_err c.from_residual.result (after, made_now d.IsTold d.TellsPast d.content d.MayLeave d.moment d.LeftSince d.faults first start calls before after call answer k new on inv.made one)
