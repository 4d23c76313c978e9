use Rattle.std.proofs.Common.{sym, ◌∙◌}
use Rattle.std.proofs.lemmas.Result.{on_ok_weaker}
use Rattle.oe_findings.specs.Screenings.{slopes_by, standards_by}
use Rattle.oe_findings.proofs.Holding.{large_held, small_held}
use Rattle.oe_findings.proofs.screening.Screening.put.Goals as goal

pub returns-then-is_small-clause-taken : goal.returns-then-is_small-clause-taken
returns-then-is_small-clause-taken g c =
    let site = c.args.self.now.structure in
    on_ok_weaker c.put_small.result (λ h items held. small_held g.C.Collector.taken site _ _ _ items c.args.prepared.now (sym c.is_small.ensures ∙ c.if-is_small.true) (h (standards_by site items) (slopes_by site items) held))
    c.put_small.ensures.taken

pub returns-else-is_small-clause-taken : goal.returns-else-is_small-clause-taken
returns-else-is_small-clause-taken g c =
    let site = c.args.self.now.structure in
    on_ok_weaker c.put_large.result (λ h items held. large_held g.C.Collector.taken site _ _ _ items c.args.prepared.now (sym c.is_small.ensures ∙ c.if-is_small.false) (h (standards_by site items) (slopes_by site items) held))
    c.put_large.ensures.taken
