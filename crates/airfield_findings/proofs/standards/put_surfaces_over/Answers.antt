use Rattle.std.proofs.Common.{◌≡◌, ℕ, List, ap, ◌∙◌, FitsSigned, w64, to_z-of_z}
use Rattle.horizontal_hull.specs.Arcs.{Dome, dome_of}
use Rattle.horizontal_hull.specs.Within.{horizontal_excess, conical_excess}
use Rattle.airfield_findings.specs.Entries.{entries, field_key, of_runways}
use Rattle.finding_lists.specs.declared.finding.Rule.TheVariants as rules
use Rattle.airfield_findings.proofs.EntryFacts.{named, three, where_ok}
use Rattle.airfield_findings.proofs.standards.put_surfaces_over.Goals as goal

pub returns-clause-taken : goal.returns-clause-taken
returns-clause-taken g c =
    let T = g.C.Collector.taken in
    let ft : FitsSigned w64 c.args.top = c.ranges.top in
    let a = c.args.prepared.now in
    let at = c.args.at.now in
    let top = c.args.top in
    let here = field_key c.id-field.result 0 in
    let key = field_key a.id 0 in
    let same = ap (λ (b : List ℕ). field_key b 0) c.id-field.ensures in
    let o0 = T c.args.out.now in
    let o1 = T c.put_on_field.new.out in
    let o2 = T c.put_on_field-2.new.out in
    let o3 = T c.put_runways.new.out in
    let x1 = horizontal_excess (dome_of a) at top in
    let x2 = conical_excess (dome_of a) at top in
    let e1 : c.excess_horizontal_at-horizontal.result ≡ x1 =
    (simp to_z-of_z at (c.excess_horizontal_at-horizontal.ensures.value at c.standing-standing.ensures)) ∙ ap (λ (d : Dome). horizontal_excess d at top) c.hull-hull.ensures in
    let e2 : c.excess_conical_at-conical.result ≡ x2 = (simp to_z-of_z at c.excess_conical_at-conical.ensures.value) ∙ ap (λ (d : Dome). conical_excess d at top) c.hull-hull.ensures in
    where_ok c.put_runways.result
    (λ last. three o0 o1 o2 o3 (entries rules.Horizontal key x1) (entries rules.Conical key x2) (of_runways at top a)
    (named o0 o1 rules.Horizontal here key c.excess_horizontal_at-horizontal.result x1 same e1 c.in_ok-put_on_field.ensures.taken)
    (named o1 o2 rules.Conical here key c.excess_conical_at-conical.result x2 same e2 c.in_ok-put_on_field-2.ensures.taken)
    (simp to_z-of_z at last))
    c.put_runways.ensures.taken
