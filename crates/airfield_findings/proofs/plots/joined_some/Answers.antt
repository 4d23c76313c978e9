use Rattle.airfield_findings.proofs.Joins.{some_joined}
use Rattle.airfield_findings.proofs.plots.joined_some.Goals as goal

pub returns-in-Some-second : goal.returns-in-Some-second
returns-in-Some-second c = some_joined c.args.first.now c.args.second.now c.in-Some.a c.in-Some-second.b c.joined.result c.in-Some.is c.in-Some-second.is c.joined.ensures.exact
