use Rattle.std.proofs.Common.{◌≡◌, FitsSigned, w64, to_z, of_z, to_z-of_z, arith, ap, ◌∙◌}
use Rattle.std.proofs.lemmas.Int.{ints}
use Rattle.runway_lines.specs.declared.end.End.TheVariants.{One, Two}
use Rattle.grid_exact.specs.Axes.{line_of}
use Rattle.runway_lines.specs.Profiles.{profile}
use Rattle.runway_lines.specs.Ends.{class_of, line_between}
use Rattle.runway_lines.specs.Profiles.{profile_of}
use Rattle.imaginary_surfaces.specs.Strips.{primary_of}
use Rattle.imaginary_surfaces.proofs.SurfaceFacts.{same_primary}
use Rattle.imaginary_surfaces.proofs.prepare.primary.Goals as goal

pub returns : goal.returns
unfolding primary_of
returns c =
    let r = c.args.runway.now in
    let w = c.class.result.width in
    let fw : FitsSigned w64 w = omega (arith, ints, c.class.ensures.sized.width_least, c.class.ensures.sized.width_most) in
    let ew : to_z w64 (of_z w64 w) ≡ (class_of r).width = to_z-of_z fw ∙ ap (λ k. k.width) c.class.ensures.value in
    record {
      shape = same_primary (line_of c.between.result) (line_between r One One Two) (to_z w64 (of_z w64 w)) (class_of r).width (profile c.of.result) (profile_of r)
          c.between.ensures.line ew c.of.ensures.profile;
    }
