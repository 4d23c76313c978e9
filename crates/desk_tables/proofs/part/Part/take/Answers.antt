use Rattle.std.proofs.Common.{true}
use Rattle.desk_tables.proofs.FormatFacts.{taken_bad}
use Rattle.desk_tables.proofs.part.Part.take.Goals as goal

pub returns-clause-bad : goal.returns-clause-bad
returns-clause-bad c = taken_bad c.args.layout c.args.self.now c.args.self.now c.args.value true c.follow.result c.follow.ensures.bad
