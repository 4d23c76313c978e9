use Rattle.runway_lines.proofs.AxisFacts.{outward_square}
use Rattle.imaginary_surfaces.proofs.prepare.outward.Goals as goal

pub invariant_of-result : goal.invariant_of-result
invariant_of-result c = record {
  square = rw (c.to_start.ensures.x, c.to_start.ensures.y, c.requires.here.x, c.requires.here.y, c.requires.far.x, c.requires.far.y)
      (outward_square c.args.runway.now c.args.end c.requires.proper.within_length);
}
