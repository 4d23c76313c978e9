use Rattle.std.proofs.Common.{arith, FitsSigned, w64, to_z-of_z}
use Rattle.std.proofs.lemmas.Int.{ints}
use Rattle.desk_generator.proofs.ActFacts.{airport_told}
use Rattle.desk_generator.proofs.acts.put_airport.Goals as goal

pub returns-clause-told : goal.returns-clause-told
returns-clause-told c =
    let f : FitsSigned w64 c.args.airport.now.elevation = omega (arith, ints, c.requires.elevation.0, c.requires.elevation.1) in
    simp to_z-of_z (airport_told c.args.airport.now c.requires)
