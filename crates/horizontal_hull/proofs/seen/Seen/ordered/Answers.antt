use Rattle.std.proofs.Common.{◌∙◌, FitsSigned, w64, to_z-of_z, arith}
use Rattle.std.proofs.lemmas.Int.{ints}
use Rattle.horizontal_hull.proofs.seen.Seen.ordered.Goals as goal

pub returns : goal.returns
returns c =
    let band = c.of-band.ensures in
    let fits : FitsSigned w64 c.lean.result = omega (arith, ints, c.lean.ensures.size) in
    record {
      first_is = c.square_to.ensures.value;
      second_is = c.square_to-2.ensures.value;
      first_radius_is = c.radius.ensures;
      second_radius_is = c.radius-2.ensures;
      square_is = c.square.ensures.value ∙ band.square_is;
      lean_is = simp to_z-of_z (rw (band.growth_is, band.along_is) at c.lean.ensures.value);
      reach_is = rw (band.across_is, band.square_is, band.growth_is) at c.reach.ensures;
      open_is = rw (band.square_is, band.growth_is) at c.is_open.ensures;
      between_is = rw (band.square_is, band.along_is, band.across_is, band.growth_is) at c.is_between.ensures;
    }
