use Rattle.std.proofs.Common.{FitsSigned, w64, to_z, of_z, to_z-of_z, arith}
use Rattle.std.proofs.lemmas.Int.{ints}
use Rattle.heliport_surfaces.specs.Axes.{pad_line}
use Rattle.heliport_surfaces.specs.Pads.{landing_of, line_from}
use Rattle.heliport_surfaces.proofs.PadFacts.{same_landing}
use Rattle.heliport_surfaces.proofs.prepare.landing.Goals as goal

pub returns : goal.returns
unfolding landing_of
returns c =
    let h = c.args.heliport.now in
    let held = c.requires.held in
    let fw : FitsSigned w64 h.width = omega (arith, ints, held.width_least, held.width_most) in
    let fz : FitsSigned w64 h.elevation = omega (arith, ints, held.elevation.least, held.elevation.most) in
    record {
      shape = same_landing (pad_line c.axis_from.result) (line_from h.a h.a h.b) (to_z w64 (of_z w64 h.width)) h.width (to_z w64 (of_z w64 h.elevation)) h.elevation
          c.axis_from.ensures.line (to_z-of_z fw) (to_z-of_z fz);
    }
