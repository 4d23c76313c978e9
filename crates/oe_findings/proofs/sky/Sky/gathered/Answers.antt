use Rattle.std.proofs.Common.{◌∙◌, List, subst}
use Rattle.std.specs.Prelude.{IfOk}
use Rattle.airfields.specs.Sites.{Site}
use Rattle.airfields.specs.declared.airfield.Airfield.{Airfield}
use Rattle.oe_findings.specs.List.{findings_of}
use Rattle.oe_findings.proofs.sky.Sky.gathered.Goals as goal

pub returns-clause-taken : goal.returns-clause-taken
returns-clause-taken g c =
    subst (λ (xs : List Airfield). IfOk c.finish.result (λ k. g.C.Collector.taken k (findings_of xs c.args.filing.now))) c.self.view_is
    (subst (λ (f : Site). IfOk c.finish.result (λ k. g.C.Collector.taken k (findings_of c.self.inside.register f))) (c.visit.ensures.filing ∙ c.begin.ensures.same ∙ c.new-screening.ensures.structure) c.finish.ensures.taken)
