use Rattle.std.proofs.Common.{inl, inr, refl, sym, subst, ◌∙◌}
use Rattle.crash_disks.specs.Crash.{LeavesDuring}
use Rattle.oe_journal.specs.Frames.{rows_of}
use Rattle.oe_journal.specs.declared.runs.Call.TheVariants as calls_of
use Rattle.oe_journal.specs.Journal.{IsTelling}
use Rattle.oe_journal.specs.Runs.{after_apply, while_applied, IsOneOf, IsAsked, StandsSo, IsMade}
use Rattle.oe_journal.proofs.Loaded.{loaded_of, not_both}
use Rattle.oe_journal.proofs.runs.call_one.Goals as goal

pub returns-then-is_loaded-clause-open : goal.returns-then-is_loaded-clause-open
returns-then-is_loaded-clause-open g c = let d = g.D.Disk in (loaded_of d.IsTold d.content d.MayLeave c.apply_one.new.keeper c.apply_one.ensures.loaded).is_open

pub returns-in-Load-clause-made : goal.returns-in-Load-clause-made
returns-in-Load-clause-made g c =
    λ stand is so.
    let d = g.D.Disk in
    let load = c.load_again.ensures in
    subst (λ call. IsMade d.IsTold d.TellsPast d.content d.MayLeave d.moment d.LeftSince d.faults c.args.keeper.now stand call c.load_again.result c.load_again.new.keeper) (sym c.in-Load.is) (record {
      asked = load.asked stand;
      found = λ told. load.found told stand (so told);
      stands = λ told. load.stands told stand (so told);
      crash = λ told past. load.crash told past stand (so told);
      cause = load.cause;
      unasked = λ e. absurd (subst (IsAsked stand calls_of.Load) e (load.asked stand));
      refused = λ e. inl refl;
      kept = load.kept;
    })

pub returns-then-is_loaded-clause-made : goal.returns-then-is_loaded-clause-made
returns-then-is_loaded-clause-made g c =
    λ stand is so.
    let d = g.D.Disk in
    let apply = c.apply_one.ensures in
    let loaded = is ∙ c.if-is_loaded.true in
    let old = c.args.keeper.now in
    let new = c.apply_one.new.keeper in
    let same = c.as_slice.ensures.value in
    subst (λ call. IsMade d.IsTold d.TellsPast d.content d.MayLeave d.moment d.LeftSince d.faults old stand call c.apply_one.result new) (sym c.in-Apply.is) (record {
      asked = apply.asked stand c.in-Apply.list loaded;
      found = λ told. apply.found stand;
      stands = λ told. subst (λ l. StandsSo d.IsTold d.content d.MayLeave new (after_apply stand l c.apply_one.result)) same (apply.stands told stand loaded (so told));
      crash = λ told past. subst (λ l. LeavesDuring d.moment d.LeftSince old.disk new.disk (λ x. IsOneOf (while_applied stand l c.apply_one.result) (rows_of x))) same (apply.crash told past stand loaded (so told));
      cause = apply.cause;
      unasked = λ e. absurd (not_both stand.is_loaded loaded (subst (IsAsked stand (calls_of.Apply c.in-Apply.list)) e (apply.asked stand c.in-Apply.list loaded)));
      refused = λ e. inr (apply.refused e);
      kept = λ e rows telling. subst (λ k. IsTelling d.IsTold d.content k rows) (sym (apply.refused e)) telling;
    })
