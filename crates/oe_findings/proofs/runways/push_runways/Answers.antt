use Rattle.std.proofs.Common.{◌++◌, ℤ, subst, ap, ◌∙◌}
use Rattle.std.proofs.lemmas.List.{append_assoc}
use Rattle.airfields.specs.declared.runway.Runway.{Runway}
use Rattle.grid_exact.specs.Level.{IsLevel}
use Rattle.grid_exact.specs.declared.cap.Cap.{Cap}
use Rattle.grid_exact.specs.declared.point.Point.{Point}
use Rattle.imaginary_surfaces.specs.Areas.{AreStripAreas, HullHas, SkipsIn}
use Rattle.airfield_findings.proofs.RunwayAreas.{next_runway}
use Rattle.oe_findings.proofs.OutsideFacts.{next_left_out}
use Rattle.oe_findings.proofs.runways.push_runways.Goals as goal

pub loop-runway-preserved : goal.loop-runway-preserved
loop-runway-preserved c =
    let hull = c.args.hull.now in
    let runways = c.args.runways.now in
    let i = c.loop-runway.runway-index in
    let one = c.areas.result in
    let before = c.loop-runway.invariant in
    let strip = subst (λ (r : Runway). AreStripAreas r hull one) c.of.ensures.runway c.areas.ensures.areas in
    let skips : (x : Point) (top : ℤ) (cap : Cap) → IsLevel top → HullHas hull x cap → SkipsIn c.runway-item.result x top cap one = subst (λ (r : Runway). (x : Point) (top : ℤ) (cap : Cap) → IsLevel top → HullHas hull x cap → SkipsIn r x top cap one) c.of.ensures.runway c.areas.ensures.skips in (
      before.0 ++ one,
      next_runway hull runways i c.runway-item.result before.0 one c.loop-runway-test.true c.runway-item.is strip before.1,
      next_left_out hull runways i c.runway-item.result before.0 one c.loop-runway-test.true c.runway-item.is skips before.2,
      c.in_ok-extend_from_slice.ensures.items ∙ ap (λ zs. zs ++ one) before.3 ∙ append_assoc c.args.areas.now.items before.0 one,
    )
