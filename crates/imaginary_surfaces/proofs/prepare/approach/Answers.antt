use Rattle.std.proofs.Common.{◌≡◌, FitsSigned, w64, to_z, of_z, to_z-of_z, arith, ap, ◌∙◌}
use Rattle.std.proofs.lemmas.Int.{ints}
use Rattle.airfields.specs.Runways.{effective, is_precision}
use Rattle.grid_exact.specs.Axes.{line_of}
use Rattle.runway_lines.specs.Ends.{class_of, end_class_of, end_of, line_between, other_end}
use Rattle.imaginary_surfaces.specs.Strips.{approach_of}
use Rattle.imaginary_surfaces.proofs.Sound.{end_flared, end_small}
use Rattle.imaginary_surfaces.proofs.SurfaceFacts.{same_approach}
use Rattle.imaginary_surfaces.proofs.prepare.approach.Goals as goal

pub invariant_of-result : goal.invariant_of-result
invariant_of-result c =
    let w = c.class.result.width in
    let z = c.of-runway_end.result.z in
    let sized = c.class.ensures.sized in
    let fw : FitsSigned w64 w = omega (arith, ints, sized.width_least, sized.width_most) in
    let fz : FitsSigned w64 z = omega (arith, ints, c.of-runway_end.type_inv) in
    let ez : z ≡ (end_of c.args.runway.now c.args.end).z = ap (λ e. e.z) c.of-runway_end.ensures in
    simp to_z-of_z (record {
      sound = record {
        wide = record { least = sized.width_least; most = sized.width_most };
        sized = c.end_class.ensures.sized;
        flared = rw (ap (λ k. k.width) c.class.ensures.value, c.end_class.ensures.value) (end_flared c.args.runway.now c.args.end);
        z_size = rw ez (end_small c.args.runway.now c.args.end c.requires.proper);
      };
    })

pub returns : goal.returns
unfolding approach_of
returns c =
    let r = c.args.runway.now in
    let end = c.args.end in
    let w = c.class.result.width in
    let z = c.of-runway_end.result.z in
    let fw : FitsSigned w64 w = omega (arith, ints, c.class.ensures.sized.width_least, c.class.ensures.sized.width_most) in
    let fz : FitsSigned w64 z = omega (arith, ints, c.of-runway_end.type_inv) in
    let ew : to_z w64 (of_z w64 w) ≡ (class_of r).width = to_z-of_z fw ∙ ap (λ k. k.width) c.class.ensures.value in
    let ez : to_z w64 (of_z w64 z) ≡ (end_of r end).z = to_z-of_z fz ∙ ap (λ e. e.z) c.of-runway_end.ensures in
    let ep : c.is_precision.result ≡ is_precision (effective (end_of r end)) = c.is_precision.ensures ∙ ap (λ e. is_precision (effective e)) c.of-runway_end.ensures in
    record {
      shape = same_approach (line_of c.outward.result) (line_between r end (other_end end) end) (to_z w64 (of_z w64 w)) (class_of r).width c.end_class.result (end_class_of r end) (to_z w64 (of_z w64 z)) (end_of r end).z
          c.is_precision.result (is_precision (effective (end_of r end))) c.outward.ensures.line ew c.end_class.ensures.value ez ep;
    }
