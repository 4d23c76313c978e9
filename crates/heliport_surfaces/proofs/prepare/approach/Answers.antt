use Rattle.std.proofs.Common.{◌≡◌, FitsSigned, w64, to_z, of_z, to_z-of_z, arith, ◌∙◌}
use Rattle.std.proofs.lemmas.Int.{ints}
use Rattle.heliport_surfaces.specs.Axes.{pad_line}
use Rattle.heliport_surfaces.specs.Pads.{approach_of, approach_slope, outward_line}
use Rattle.heliport_surfaces.proofs.PadFacts.{same_approach}
use Rattle.heliport_surfaces.proofs.PadSizes.{slope_fits}
use Rattle.heliport_surfaces.proofs.prepare.approach.Goals as goal

pub returns : goal.returns
unfolding approach_of
returns c =
    let h = c.args.heliport.now in
    let s = c.slope.result in
    let held = c.requires.held in
    let fw : FitsSigned w64 h.width = omega (arith, ints, held.width_least, held.width_most) in
    let fz : FitsSigned w64 h.elevation = omega (arith, ints, held.elevation.least, held.elevation.most) in
    let fs : FitsSigned w64 s = slope_fits s c.slope.ensures.sloped in
    let es : to_z w64 (of_z w64 s) ≡ approach_slope h = to_z-of_z fs ∙ c.slope.ensures.value in
    record {
      shape = same_approach (pad_line c.outward.result) (outward_line h c.args.end) (to_z w64 (of_z w64 h.width)) h.width (to_z w64 (of_z w64 h.elevation)) h.elevation (to_z w64 (of_z w64 s)) (approach_slope h)
          c.outward.ensures.line (to_z-of_z fw) (to_z-of_z fz) es;
    }
