use Rattle.std.proofs.Common.{rules}
use Rattle.row_receipts.proofs.Words.{emergency_is, no_timeliness}
use Rattle.row_receipts.proofs.parts.timeliness.Goals as goal

pub returns-in-Some-clause-some : goal.returns-in-Some-clause-some
returns-in-Some-clause-some c = emergency_is _ _ c.in-Some.ensures.some

pub returns-in-None-clause-none : goal.returns-in-None-clause-none
returns-in-None-clause-none c = no_timeliness _ (search rules) c.in_default.ensures.none c.in-None.ensures.none
