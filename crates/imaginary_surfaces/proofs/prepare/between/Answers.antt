use Rattle.runway_lines.proofs.AxisFacts.{axis_square_back}
use Rattle.imaginary_surfaces.proofs.prepare.between.Goals as goal

pub invariant_of-result : goal.invariant_of-result
invariant_of-result c = record {
  square = rw (c.to_start.ensures.x, c.to_start.ensures.y, c.requires.one.x, c.requires.one.y, c.requires.two.x, c.requires.two.y)
      (axis_square_back c.args.runway.now c.requires.proper.within_length);
}
