use Rattle.std.proofs.Common.{◌≡◌, ◌∙◌, ap, subst, arith, FitsSigned, w64, to_z-of_z}
use Rattle.std.specs.Prelude.{IfOk}
use Rattle.std.proofs.lemmas.Int.{ints}
use Rattle.airfields.specs.Sites.{Site}
use Rattle.oe_findings.specs.List.{findings_of}
use Rattle.oe_ceiling.specs.Ceilings.{at_height}
use Rattle.oe_ceiling.proofs.search.findings_above.Goals as goal

pub returns-clause-found : goal.returns-clause-found
returns-clause-found g c =
    let height = c.height_above.result in
    let f : FitsSigned w64 height = omega (arith, ints, c.height_above.ensures.least, c.height_above.ensures.most) in
    let e : c.at_height.result ≡ at_height c.args.filing.now height = simp to_z-of_z at c.at_height.ensures in
    subst (λ (s : Site). IfOk c.findings.result (λ list. list ≡ findings_of c.args.sky.now s))
    (e ∙ ap (at_height c.args.filing.now) c.height_above.ensures.found) c.findings.ensures.found
