use Rattle.std.proofs.Common.{pos, ◌-ℤ◌, FitsSigned, w64, to_z-of_z, arith}
use Rattle.std.proofs.lemmas.Int.{ints}
use Rattle.grid_exact.specs.Level.{Reaches}
use Rattle.grid_exact.proofs.Booleans.{not_from_false}
use Rattle.grid_exact.proofs.SlopeLemmas.{above_unreached, slope_low}
use Rattle.imaginary_surfaces.proofs.search.least_possible.Goals as goal

pub returns-then-guess-clause-lowest : goal.returns-then-guess-clause-lowest
returns-then-guess-clause-lowest c =
    let s = c.args.slope.now in
    λ z r. slope_low s.a s.k s.c s.n z s.sound r

pub returns-clause-lowest : goal.returns-clause-lowest
returns-clause-lowest c =
    let s = c.args.slope.now in
    let g = c.args.guess in
    let fg : FitsSigned w64 g = c.ranges.guess in
    let f1 : FitsSigned w64 (g -ℤ pos 1) = omega (arith, ints, c.requires.guess.low, c.requires.guess.high) in
    let unreached : Reaches s.a s.k s.c s.n (g -ℤ pos 1) → ⊥ = λ q. not_from_false c.is_reached.result c.is_reached.ensures.1 c.if-is_reached.false (simp to_z-of_z q) in
    λ z h. simp to_z-of_z (omega (arith, ints, above_unreached s.a s.k s.c s.n (g -ℤ pos 1) z s.sound.rises unreached h))
