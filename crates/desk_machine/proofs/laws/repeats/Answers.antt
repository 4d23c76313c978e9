use Rattle.desk_machine.proofs.Replaying.{repeated, reused}
use Rattle.desk_machine.proofs.laws.repeats.Goals as goal

pub returns-clause-kept : goal.returns-clause-kept
returns-clause-kept c = repeated

pub returns-clause-reused : goal.returns-clause-reused
returns-clause-reused c = reused
