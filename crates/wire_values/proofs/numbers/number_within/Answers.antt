use Rattle.std.proofs.Common.{arith}
use Rattle.std.proofs.lemmas.Int.{ints}
use Rattle.wire_values.proofs.LimitFacts.{below_limit, above_limit}
use Rattle.wire_values.proofs.numbers.number_within.Goals as goal

pub returns-then-z-low-clause-none : goal.returns-then-z-low-clause-none
returns-then-z-low-clause-none c =
    below_limit c.args.low c.args.high c.in-Some.z _ c.requires.low c.requires.high c.in-Some.ensures.some.0 c.in-Some.ensures.some.1 (omega (arith, ints))

pub returns-then-z-high-clause-none : goal.returns-then-z-high-clause-none
returns-then-z-high-clause-none c =
    above_limit c.args.low c.args.high c.in-Some.z _ c.requires.low c.requires.high c.in-Some.ensures.some.0 c.in-Some.ensures.some.1 (omega (arith, ints))
