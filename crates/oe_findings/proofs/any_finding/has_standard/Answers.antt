use Rattle.std.proofs.Common.{[], nat_lt, ap, ◌∙◌}
use Rattle.finding_lists.specs.declared.verdict.Verdict.{Verdict}
use Rattle.oe_findings.proofs.Clears.{counted}
use Rattle.oe_findings.proofs.any_finding.has_standard.Goals as goal

pub returns : goal.returns
returns c = ap (λ (v : Verdict). nat_lt 0 v.entries) (c.in-Ok.ensures.taken [] c.none-verdict.ensures) ∙ counted _
