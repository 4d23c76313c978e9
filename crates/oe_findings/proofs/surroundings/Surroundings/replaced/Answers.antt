use Rattle.std.proofs.Common.{Some, ap, sym, ◌∙◌}
use Rattle.std.specs.Prelude.{option_map}
use Rattle.std.specs.Arc.{arc_value}
use Rattle.airfield_findings.specs.Prepared.{airfield_of}
use Rattle.oe_findings.proofs.FieldFacts.{put_changed, removed_changed}
use Rattle.oe_findings.proofs.surroundings.Surroundings.replaced.Goals as goal

pub returns-in_ok-with-in-Some : goal.returns-in_ok-with-in-Some
returns-in_ok-with-in-Some c =
    rw (← c.self.view_is)
    (put_changed c.self.inside.tree c.in_ok-with-in-Some.field-0 (arc_value c.in_ok-prepared-in-Some.prepared) c.deref.result.now c.args.changed.now.id _
    (ap (option_map arc_value) c.in-Some.is ∙ ap Some (sym c.deref.ensures)) (ap airfield_of c.in_ok-prepared-in-Some.ensures.ok ∙ c.in_ok-of-in-Some.ensures.airfield)
    c.in_ok-with-in-Some.ensures)

pub returns-in_ok-without_key-in-None : goal.returns-in_ok-without_key-in-None
returns-in_ok-without_key-in-None c =
    rw (← c.self.view_is)
    (removed_changed c.self.inside.tree c.in_ok-without_key-in-None.field-0 c.args.changed.now.id _ (ap (option_map arc_value) c.in-None.is) c.in_ok-without_key-in-None.ensures)
