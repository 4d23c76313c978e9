use Rattle.std.proofs.Common.{⊎_elim, inl, inr, sym, ap, subst, ◌∙◌}
use Rattle.oe_keeper.specs.Kept.{Kept, rows_after_changes}
use Rattle.oe_journal.specs.Journal.{acknowledged_by}
use Rattle.oe_journal.specs.Runs.{StandsSo}
use Rattle.oe_journal.proofs.Loaded.{was_told, failed_says, no_memory_says}
use Rattle.oe_journal.proofs.Following.{done_one, failed_one}
use Rattle.oe_journal.proofs.runs.apply_one.Goals as goal

pub returns-in-Ok-clause-stands : goal.returns-in-Ok-clause-stands
returns-in-Ok-clause-stands g c =
    λ told stand loaded so.
    let base = acknowledged_by g.D.Disk.content c.args.keeper.now in
    record {
      acknowledges = λ _. c.in-Ok.ensures.acknowledged told ∙ ap (λ (k : Kept). rows_after_changes k c.args.list.now) (so.acknowledges loaded);
      may_stand = λ rows now. done_one stand c.args.list.now base rows (sym (so.acknowledges loaded)) (c.in-Ok.ensures.stands told rows now);
      telling = λ rows tells. was_told stand.is_told (c.apply.ensures.silent rows tells) (λ w. so.telling w.0 w.1);
    }

pub returns-in-Err-Failed-clause-stands : goal.returns-in-Err-Failed-clause-stands
returns-in-Err-Failed-clause-stands g c =
    λ told stand loaded so.
    let base = acknowledged_by g.D.Disk.content c.args.keeper.now in
    record {
      acknowledges = λ _. c.in-Err-Failed.ensures.unacknowledged told ∙ so.acknowledges loaded;
      may_stand = λ rows now. failed_one stand c.args.list.now base rows (sym (so.acknowledges loaded)) (⊎_elim (λ was. inl (so.may_stand rows was)) (λ e. inr e) (c.apply.ensures.may_stand told rows now));
      telling = λ rows tells. absurd (failed_says (Unit {0}) c.in-Err-Failed.field-0 c.in-Err-Failed.field-0-is c.in-Err-Failed.ensures.untold rows tells);
    }

pub returns-in-Err-NoMemory-clause-stands : goal.returns-in-Err-NoMemory-clause-stands
returns-in-Err-NoMemory-clause-stands g c = λ told stand loaded so. let d = g.D.Disk in subst (λ k. StandsSo d.IsTold d.content d.MayLeave k stand) (sym (no_memory_says (Unit {0}) c.in-Err-NoMemory.field-0 c.in-Err-NoMemory.field-0-is c.in-Err-NoMemory.ensures.untouched)) so
