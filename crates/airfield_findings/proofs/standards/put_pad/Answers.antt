use Rattle.std.proofs.Common.{ℕ, ap, FitsSigned, w64, to_z-of_z}
use Rattle.airfields.specs.declared.airfield.Heliport.{Heliport}
use Rattle.heliport_surfaces.specs.Pads.{pad_primary_excess, pad_approach_excess, pad_transition_excess}
use Rattle.heliport_surfaces.specs.declared.parts.PadEnd.TheVariants as pad_ends
use Rattle.heliport_surfaces.specs.declared.parts.Beside.TheVariants as sides
use Rattle.airfield_findings.specs.Entries.{entries, field_key}
use Rattle.finding_lists.specs.declared.finding.SurfaceKey.{SurfaceKey}
use Rattle.finding_lists.specs.declared.finding.Rule.TheVariants as rules
use Rattle.airfield_findings.proofs.EntryFacts.{named, six}
use Rattle.airfield_findings.proofs.standards.put_pad.Goals as goal

pub returns-clause-taken : goal.returns-clause-taken
returns-clause-taken g c =
    let T = g.C.Collector.taken in
    let ft : FitsSigned w64 c.args.top = c.ranges.top in
    let h = c.args.pad.now in
    let at = c.args.at.now in
    let top = c.args.top in
    let key : ℕ → SurfaceKey = λ part. field_key h.id part in
    let named_so : ℕ → SurfaceKey = λ part. field_key c.heliport.result.now.id part in
    let same = λ (part : ℕ). ap (λ (q : Heliport). field_key q.id part) c.heliport.ensures in
    let o0 = T c.args.out.now in
    let o1 = T c.put_on_field.new.out in
    let o2 = T c.put_on_field-2.new.out in
    let o3 = T c.put_on_field-3.new.out in
    let o4 = T c.put_on_field-4.new.out in
    let o5 = T c.put_on_field-5.new.out in
    let o6 = T c.put_on_field-6.new.out in
    let x1 = pad_primary_excess h at top in
    let x2 = pad_approach_excess h pad_ends.One at top in
    let x3 = pad_approach_excess h pad_ends.Two at top in
    let x4 = pad_transition_excess h sides.Primary at top in
    let x5 = pad_transition_excess h sides.ApproachOne at top in
    let x6 = pad_transition_excess h sides.ApproachTwo at top in
    let es = simp to_z-of_z at c.excesses-excesses.ensures.value in
    six o0 o1 o2 o3 o4 o5 o6 (entries rules.PadPrimary (key 0) x1) (entries rules.PadApproach (key 1) x2) (entries rules.PadApproach (key 2) x3) (entries rules.PadTransition (key 0) x4) (entries rules.PadTransition (key 1) x5) (entries rules.PadTransition (key 2) x6)
    (named o0 o1 rules.PadPrimary (named_so 0) (key 0) c.excesses-excesses.result.primary x1 (same 0) es.primary_is c.in_ok-put_on_field.ensures.taken)
    (named o1 o2 rules.PadApproach (named_so 1) (key 1) c.excesses-excesses.result.approach1 x2 (same 1) es.approach1_is c.in_ok-put_on_field-2.ensures.taken)
    (named o2 o3 rules.PadApproach (named_so 2) (key 2) c.excesses-excesses.result.approach2 x3 (same 2) es.approach2_is c.in_ok-put_on_field-3.ensures.taken)
    (named o3 o4 rules.PadTransition (named_so 0) (key 0) c.excesses-excesses.result.beside_primary x4 (same 0) es.beside_primary_is c.in_ok-put_on_field-4.ensures.taken)
    (named o4 o5 rules.PadTransition (named_so 1) (key 1) c.excesses-excesses.result.beside_approach1 x5 (same 1) es.beside_approach1_is c.in_ok-put_on_field-5.ensures.taken)
    (named o5 o6 rules.PadTransition (named_so 2) (key 2) c.excesses-excesses.result.beside_approach2 x6 (same 2) es.beside_approach2_is c.in_ok-put_on_field-6.ensures.taken)
