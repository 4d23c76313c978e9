use Rattle.std.proofs.Common.{List, ◌∙◌, subst}
use Rattle.airfields.specs.declared.airfield.Airfield.{Airfield}
use Rattle.oe_findings.specs.Nearness.{HasOneNear}
use Rattle.oe_findings.proofs.sky.Sky.near_number.Goals as goal

pub returns : goal.returns
returns c = λ x. subst (λ (fs : List Airfield). HasOneNear fs x) (c.self.invariant ∙ c.self.view_is) (c.near_number.ensures x)
