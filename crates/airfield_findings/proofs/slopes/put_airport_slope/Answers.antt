use Rattle.std.proofs.Common.{ap, refl, ◌∙◌}
use Rattle.height_rules.specs.Heights.{notice_top}
use Rattle.airfields.specs.Sites.{Site}
use Rattle.airfield_findings.specs.Entries.{rule_b, runway_key}
use Rattle.airfield_findings.proofs.SlopeFacts.{slope_put}
use Rattle.airfield_findings.proofs.slopes.put_airport_slope.Goals as goal

pub returns-in_ok-take-clause-taken : goal.returns-in_ok-take-clause-taken
returns-in_ok-take-clause-taken g c =
    let T = g.C.Collector.taken in
    let site = c.args.structure.now in
    let a = c.args.prepared.now in
    let s = c.in-Some.slope in
    slope_put (T c.args.out.now) (T c.take.new.self) site a a site.at (notice_top site) s c.rule_b.result c.runway_key.result refl refl refl c.in-Some.ensures
    (c.rule_b.ensures ∙ ap (λ (x : Site). rule_b x s.sub) c.filing.ensures) (c.runway_key.ensures ∙ ap (λ id. runway_key id s.runway 0) c.id.ensures) c.in_ok-take.ensures.taken
