use Rattle.std.proofs.Common.{◌≡◌, ◌↔◌, [], FitsSigned, w64, subst, to_z-of_z}
use Rattle.std.specs.Prelude.{IsTrue}
use Rattle.airfields.specs.Sites.{Site}
use Rattle.oe_findings.specs.List.{findings_of}
use Rattle.oe_ceiling.specs.Ceilings.{at_height}
use Rattle.oe_ceiling.proofs.site.is_clear.Goals as goal

pub returns-clause-found : goal.returns-clause-found
returns-clause-found g c =
    let f : FitsSigned w64 c.args.height = c.ranges.height in
    let e : c.at_height.result ≡ at_height c.args.filing.now c.args.height = simp to_z-of_z at c.at_height.ensures in
    subst (λ (s : Site). IsTrue c.is_clear.result ↔ findings_of c.args.sky.now s ≡ []) e c.is_clear.ensures.found
