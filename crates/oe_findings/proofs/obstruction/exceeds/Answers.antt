use Rattle.std.proofs.Common.{[], ap}
use Rattle.finding_lists.specs.declared.verdict.Verdict.{Verdict}
use Rattle.oe_findings.proofs.obstruction.exceeds.Goals as goal

pub returns : goal.returns
returns c = ap (λ (v : Verdict). v.obstruction) (c.in-Ok.ensures.taken [] c.none-verdict.ensures)
