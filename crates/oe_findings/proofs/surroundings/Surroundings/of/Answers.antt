use Rattle.std.proofs.Common.{ap, sym, ◌∙◌}
use Rattle.std.specs.Arc.{arc_value}
use Rattle.airfield_findings.specs.Prepared.{airfield_of}
use Rattle.oe_findings.proofs.FieldFacts.{put_next}
use Rattle.oe_findings.proofs.surroundings.Surroundings.of.Goals as goal

pub loop-i-preserved : goal.loop-i-preserved
loop-i-preserved c =
    put_next c.loop-i.tree _ (arc_value c.in_ok-new.field-0) c.in-Some.airfield.now c.args.register.now c.loop-i.i c.limits.ensures.rises (sym c.in-Some.ensures.place) c.loop-i.invariant
    (ap airfield_of c.in_ok-new.ensures.ok ∙ c.in_ok-of.ensures.airfield) c.in_ok-tree.ensures
