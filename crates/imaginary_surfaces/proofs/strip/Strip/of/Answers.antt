use Rattle.runway_lines.specs.declared.end.End.TheVariants.{One, Two}
use Rattle.imaginary_surfaces.specs.Shapes.{primary_shape, approach_shape}
use Rattle.imaginary_surfaces.proofs.PreparedFacts.{same_width}
use Rattle.imaginary_surfaces.proofs.strip.Strip.of.Goals as goal

pub of-requires-clause-width1 : goal.of-requires-clause-width1
of-requires-clause-width1 c =
    same_width c.args.runway.now One (primary_shape c.primary-primary.result) (approach_shape c.approach-approach1.result) c.primary-primary.ensures.shape c.approach-approach1.ensures.shape

pub of-requires-clause-width2 : goal.of-requires-clause-width2
of-requires-clause-width2 c =
    same_width c.args.runway.now Two (primary_shape c.primary-primary.result) (approach_shape c.approach-approach2.result) c.primary-primary.ensures.shape c.approach-approach2.ensures.shape
