use Rattle.std.proofs.Common.{refl, sym, ap, ◌∙◌, true, true≢false, Some}
use Rattle.jiff_core.specs.Date.{epoch_day}
use Rattle.determination_dates.specs.Determinations.{fresh_record, IsIssued}
use Rattle.determination_dates.proofs.Issues.{one_record, range_same}
use Rattle.determination_dates.proofs.determination.Record.issue_reviewable.Goals as goal

pub returns-in_default-within-clause-beyond : goal.returns-in_default-within-clause-beyond
returns-in_default-within-clause-beyond c r h w =
    let made : IsIssued c.args.issued c.args.decision true c.args.closed.now (fresh_record c.args.issued c.args.decision (Some c.in-Ok.deadline) c.ordinary_day.result) = record { on = refl; as_decided = refl; deadline = c.in-Ok.ensures.found; ordinary = c.ordinary_day.ensures; pending = refl; affirmed = refl; set_expiry = refl; extensions = refl; revisions = refl } in
    let e = one_record _ _ _ _ r _ h made in
    c.in_default-within.ensures (rw e at w.kept.ordinary)

pub returns-else-is_in_range-clause-beyond : goal.returns-else-is_in_range-clause-beyond
returns-else-is_in_range-clause-beyond c r h w =
    let made : IsIssued c.args.issued c.args.decision true c.args.closed.now c.fresh-record.result = rw c.fresh-record.ensures record { on = refl; as_decided = refl; deadline = c.in-Ok.ensures.found; ordinary = ap epoch_day c.in-Ok-within.ensures.0 ∙ c.ordinary_day.ensures; pending = refl; affirmed = refl; set_expiry = refl; extensions = refl; revisions = refl } in
    true≢false (sym (c.if-is_in_range.ensures.1 (range_same _ _ _ _ r _ h made w.computed)))
