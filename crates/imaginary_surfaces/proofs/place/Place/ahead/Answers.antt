use Rattle.std.proofs.Common.{arith}
use Rattle.std.proofs.lemmas.Int.{ints, clamps}
use Rattle.imaginary_surfaces.proofs.place.Place.ahead.Goals as goal

pub returns-clause-least : goal.returns-clause-least
returns-clause-least c = omega (arith, ints, clamps, c.past_either.ensures)

pub returns-clause-most : goal.returns-clause-most
returns-clause-most c = omega (arith, ints, clamps, c.past_either.ensures, c.self.invariant.along.size, c.self.invariant.line.size)
