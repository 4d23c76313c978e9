use Rattle.std.proofs.Common.{◌≡◌, ℤ, pos, ◌-ℤ◌, ◌*ℤ◌, FitsSigned, w64, to_z-of_z, arith}
use Rattle.std.specs.Int.{w128}
use Rattle.std.proofs.lemmas.Int.{ints, by_lt_z}
use Rattle.grid_exact.specs.Root.{AtMostRoot}
use Rattle.grid_exact.proofs.RootOrder.{AtMostRoot_more}
use Rattle.runway_lines.specs.Centers.{IsSetback}
use Rattle.runway_lines.proofs.CenterFacts.{part_above, part_least, part_most, part_within}
use Rattle.runway_lines.proofs.setbacks.setback.Goals as goal
use Rattle.runway_lines.proofs.setbacks.setback.Goals.{Else-is_least, Then-is_least, After-least_coordinate}

factor : (c : Else-is_least) → c.product-part.result ≡ pos 2000 *ℤ c.args.toward
factor c =
    let ft : FitsSigned w64 c.args.toward = c.ranges.toward in
    simp to_z-of_z at c.product-part.ensures.value

fits : (c : Else-is_least) → FitsSigned w128 c.product-part.result
fits c = omega (arith, ints)

pub least_coordinate-requires-clause-above : goal.least_coordinate-requires-clause-above
least_coordinate-requires-clause-above c =
    let f : FitsSigned w128 c.product-part.result = fits c in
    simp to_z-of_z (rw (factor c) (part_above c.args.toward c.args.square c.requires.part c.requires.square.some))

pub least_coordinate-requires-clause-within : goal.least_coordinate-requires-clause-within
least_coordinate-requires-clause-within c =
    let f : FitsSigned w128 c.product-part.result = fits c in
    simp to_z-of_z (rw (factor c) (part_within c.args.toward c.args.square c.requires.part))

one_mul : (z : ℤ) → pos 1 *ℤ z ≡ z
one_mul z = omega (arith, ints)

found : (c : After-least_coordinate) → IsSetback c.args.toward c.args.square c.least_coordinate.result
found c =
    let f : FitsSigned w128 c.product-part.result = omega (arith, ints) in
    let fr : FitsSigned w64 c.least_coordinate.result = omega (arith, ints) in
    let ft : FitsSigned w64 c.args.toward = c.ranges.toward in
    let e : c.product-part.result ≡ pos 2000 *ℤ c.args.toward = simp to_z-of_z at c.product-part.ensures.value in
    record {
      reaches = rw (← e) (rw (one_mul c.least_coordinate.result) at (simp to_z-of_z at c.least_coordinate.ensures.reaches));
      least = λ z r.
          let q : AtMostRoot c.product-part.result (pos 1 *ℤ z) c.args.square = rw (e, one_mul z) r in
          c.least_coordinate.ensures.least z (simp to_z-of_z q);
    }

-- the guess is it where a level less does not reach the part
guessed : (c : Then-is_least) → IsSetback c.args.toward c.args.square c.about_setback-guess.result
guessed c =
    let w = c.about_setback-guess.result in
    let n = c.args.square in
    let part = c.product-part.result in
    let fp : FitsSigned w128 part = omega (arith, ints) in
    let fw : FitsSigned w64 w = omega (arith, ints) in
    let ft : FitsSigned w64 c.args.toward = c.ranges.toward in
    let e : part ≡ pos 2000 *ℤ c.args.toward = simp to_z-of_z at c.product-part.ensures.value in
    let reached : AtMostRoot part w n = simp to_z-of_z at (c.is_least.ensures.reaches c.if-is_least.true) in
    let unreached : AtMostRoot part (w -ℤ pos 1) n → ⊥ = simp to_z-of_z at (c.is_least.ensures.least c.if-is_least.true) in
    record {
      reaches = rw (← e) reached;
      least = λ z r.
          let q : AtMostRoot part z n = rw e r in
          by_lt_z z w (λ l. absurd (unreached (AtMostRoot_more part z (w -ℤ pos 1) n (omega (arith, ints, l)) q))) (λ l. l);
    }

pub returns-then-is_least-clause-setback : goal.returns-then-is_least-clause-setback
returns-then-is_least-clause-setback c =
    let fw : FitsSigned w64 c.about_setback-guess.result = omega (arith, ints) in
    simp to_z-of_z (guessed c)

pub returns-then-is_least-clause-size : goal.returns-then-is_least-clause-size
returns-then-is_least-clause-size c =
    let w = c.about_setback-guess.result in
    let fw : FitsSigned w64 w = omega (arith, ints) in
    let s = guessed c in
    let low = part_least c.args.toward w c.args.square c.requires.part c.requires.square.some s.reaches in
    let high = s.least (pos 2000) (part_most c.args.toward c.args.square c.requires.part) in
    simp to_z-of_z (omega (arith, ints, low, high))

pub returns-clause-setback : goal.returns-clause-setback
returns-clause-setback c =
    let fr : FitsSigned w64 c.least_coordinate.result = omega (arith, ints) in
    simp to_z-of_z (found c)

pub returns-clause-size : goal.returns-clause-size
returns-clause-size c =
    let fr : FitsSigned w64 c.least_coordinate.result = omega (arith, ints) in
    let s = found c in
    let low = part_least c.args.toward c.least_coordinate.result c.args.square c.requires.part c.requires.square.some s.reaches in
    let high = s.least (pos 2000) (part_most c.args.toward c.args.square c.requires.part) in
    simp to_z-of_z (omega (arith, ints, low, high))
