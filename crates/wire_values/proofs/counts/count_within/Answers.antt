use Rattle.std.proofs.Common.{arith, ◌∙◌}
use Rattle.std.proofs.lemmas.Int.{ints}
use Rattle.whole_number.specs.Whole.{HasNineDigits}
use Rattle.wire_values.proofs.LimitFacts.{no_count, raw_short}
use Rattle.wire_values.proofs.counts.count_within.Goals as goal

pub returns-in-None-clause-none : goal.returns-in-None-clause-none
returns-in-None-clause-none c =
    let low : HasNineDigits c.from.result = (omega (arith, ints, c.from.ensures), omega (arith, ints, c.from.ensures, c.requires)) in
    let high : HasNineDigits c.from-2.result = (omega (arith, ints, c.from-2.ensures), omega (arith, ints, c.from-2.ensures, c.requires)) in
    no_count c.args.low c.args.high c.args.text.now (raw_short c.from.result low ∙ c.from.ensures) (raw_short c.from-2.result high ∙ c.from-2.ensures)
    c.in-None.ensures.none
