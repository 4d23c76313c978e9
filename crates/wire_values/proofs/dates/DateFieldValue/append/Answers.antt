use Rattle.wire_values.proofs.DateNames.{date_utf8}
use Rattle.wire_values.proofs.dates.DateFieldValue.append.Goals as goal

pub unreachable-requires : goal.unreachable-requires
unreachable-requires c = c.in-Err.ensures.cases.0 (rw c.date_bytes-bytes.ensures (date_utf8 c.args.self.now))
