use Rattle.row_register.proofs.PartFacts.{none_taken}
use Rattle.row_register.proofs.parts.Parts.take.Goals as goal

pub returns-in-Some-clause-none : goal.returns-in-Some-clause-none
returns-in-Some-clause-none g c = none_taken c.parse.result _ _ _ _ _ _ c.in-Some.ensures.some g.met.V.FieldValue.fits c.parse.ensures.none
