use Rattle.std.proofs.Common.{rules, ◌<◌, ◌^◌, length, arith}
use Rattle.oe_journal.specs.Spelling.{spelled, AreChanges}
use Rattle.oe_journal.proofs.Meaning.{one_list}
use Rattle.oe_journal.proofs.writing.frame_of.Goals as goal

pub returns-clause-read : goal.returns-clause-read
returns-clause-read c =
    let bound : length (spelled c.args.changes.now) < 2 ^ 63 = search rules in
    let fits : AreChanges c.args.changes.now = search rules in
    one_list _ c.args.changes.now (search rules) (omega arith) fits
