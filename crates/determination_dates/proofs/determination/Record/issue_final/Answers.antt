use Rattle.std.proofs.Common.{refl, sym, false, true≢false}
use Rattle.determination_dates.specs.Determinations.{IsIssued}
use Rattle.determination_dates.proofs.Issues.{range_same}
use Rattle.determination_dates.proofs.determination.Record.issue_final.Goals as goal

pub returns-else-is_in_range-clause-beyond : goal.returns-else-is_in_range-clause-beyond
returns-else-is_in_range-clause-beyond c closed r h w =
    let made : IsIssued c.args.issued c.args.decision false closed c.fresh-record.result = rw c.fresh-record.ensures record { on = refl; as_decided = refl; deadline = tt; ordinary = refl; pending = refl; affirmed = refl; set_expiry = refl; extensions = refl; revisions = refl } in
    true≢false (sym (c.if-is_in_range.ensures.1 (range_same _ _ _ closed r _ h made w.computed)))
