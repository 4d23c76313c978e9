use Rattle.std.proofs.Common.{◌≡◌, sym, ap, ◌∙◌, List, subst}
use Rattle.std.specs.Arc.{arc_value}
use Rattle.airfields.specs.declared.airfield.Airfield.{Airfield}
use Rattle.airport_register.specs.Registers.{IsRegister}
use Rattle.finding_lists.specs.declared.finding.Finding.{Finding}
use Rattle.oe_findings.specs.List.{findings_of}
use Rattle.desk_machine.specs.declared.entry.Entry.{Entry}
use Rattle.publishing_clerk.specs.Evaluations.{IsEvaluation}
use Rattle.publishing_clerk.proofs.Over.{evaluation}
use Rattle.publishing_clerk.proofs.evaluation.Evaluation.of.Goals as goal

pub invariant_of-result : goal.invariant_of-result
invariant_of-result g c =
    let s = c.args.snapshot.now in
    let w : List Airfield = arc_value s.value in
    let site = c.args.filing.now in
    let valid : IsRegister w = subst IsRegister (c.register.ensures ∙ c.deref.ensures) c.limits.ensures in
    let list : c.in_ok-list.list ≡ findings_of w site = c.in_ok-list.ensures.found ∙ ap (λ r. findings_of r site) c.deref-2.ensures in
    let P : List Entry × List Finding → Type 0 = λ t. IsEvaluation g.J.Naming.first (record { filing = site; front = t.0; list = t.1 }) in
    subst P (λ i. (sym c.copy.ensures i, sym list i)) (evaluation g.J.Naming.first s.front w site s.reached valid c.spell.ensures)
