use Rattle.std.proofs.Common.{ℕ, ap, FitsSigned, w64, to_z-of_z}
use Rattle.airfields.specs.declared.runway.Runway.{Runway}
use Rattle.imaginary_surfaces.specs.Strips.{primary_excess, approach_excess, primary_transition_excess, approach_transition_excess}
use Rattle.runway_lines.specs.declared.end.End.TheVariants as ends
use Rattle.airfield_findings.specs.Entries.{entries, runway_key}
use Rattle.finding_lists.specs.declared.finding.SurfaceKey.{SurfaceKey}
use Rattle.finding_lists.specs.declared.finding.Rule.TheVariants as rules
use Rattle.airfield_findings.proofs.EntryFacts.{named, six}
use Rattle.airfield_findings.proofs.standards.put_runway.Goals as goal

pub returns-clause-taken : goal.returns-clause-taken
returns-clause-taken g c =
    let T = g.C.Collector.taken in
    let ft : FitsSigned w64 c.args.top = c.ranges.top in
    let id = c.args.field in
    let r = c.args.strip.now in
    let at = c.args.at.now in
    let cap = c.args.cap.now in
    let top = c.args.top in
    let key : ℕ → SurfaceKey = λ part. runway_key id r.name part in
    let named_so : ℕ → SurfaceKey = λ part. runway_key id c.runway.result.now.name part in
    let same = λ (part : ℕ). ap (λ (q : Runway). runway_key id q.name part) c.runway.ensures in
    let o0 = T c.args.out.now in
    let o1 = T c.put_on_runway.new.out in
    let o2 = T c.put_on_runway-2.new.out in
    let o3 = T c.put_on_runway-3.new.out in
    let o4 = T c.put_on_runway-4.new.out in
    let o5 = T c.put_on_runway-5.new.out in
    let o6 = T c.put_on_runway-6.new.out in
    let x1 = primary_excess r at top in
    let x2 = approach_excess r ends.One at top in
    let x3 = approach_excess r ends.Two at top in
    let x4 = primary_transition_excess r at cap top in
    let x5 = approach_transition_excess r ends.One at cap top in
    let x6 = approach_transition_excess r ends.Two at cap top in
    let es = simp to_z-of_z at c.excesses-excesses.ensures.value in
    six o0 o1 o2 o3 o4 o5 o6 (entries rules.Primary (key 0) x1) (entries rules.Approach (key 1) x2) (entries rules.Approach (key 2) x3) (entries rules.Transition (key 0) x4) (entries rules.Transition (key 1) x5) (entries rules.Transition (key 2) x6)
    (named o0 o1 rules.Primary (named_so 0) (key 0) c.excesses-excesses.result.primary x1 (same 0) es.primary c.in_ok-put_on_runway.ensures.taken)
    (named o1 o2 rules.Approach (named_so 1) (key 1) c.excesses-excesses.result.approach1 x2 (same 1) es.approach1 c.in_ok-put_on_runway-2.ensures.taken)
    (named o2 o3 rules.Approach (named_so 2) (key 2) c.excesses-excesses.result.approach2 x3 (same 2) es.approach2 c.in_ok-put_on_runway-3.ensures.taken)
    (named o3 o4 rules.Transition (named_so 0) (key 0) c.excesses-excesses.result.beside_primary x4 (same 0) es.beside_primary c.in_ok-put_on_runway-4.ensures.taken)
    (named o4 o5 rules.Transition (named_so 1) (key 1) c.excesses-excesses.result.beside_approach1 x5 (same 1) es.beside_approach1 c.in_ok-put_on_runway-5.ensures.taken)
    (named o5 o6 rules.Transition (named_so 2) (key 2) c.excesses-excesses.result.beside_approach2 x6 (same 2) es.beside_approach2 c.in_ok-put_on_runway-6.ensures.taken)
