use Rattle.std.proofs.Common.{arith, ◌≡◌, ◌≤◌, ◌<◌, ◌+◌, length}
use Rattle.desk_generator.proofs.TallyFacts.{none_next, one_next}
use Rattle.desk_generator.proofs.tally.count_cases.Goals as goal

pub returns-then-is_none : goal.returns-then-is_none
returns-then-is_none c =
    let e : c.in-Some.next ≡ c.loop-next.count + 1 = c.in-Some.ensures.1 in
    let h : length c.args.clerk.now.state.cases ≤ c.loop-next.count = none_next c.args.clerk.now.state.cases _ _ _ _ c.filing.ensures e c.is_none.ensures c.if-is_none.true in
    omega (arith, h, e, c.in-Some.ensures.0, c.loop-next.invariant.least, c.loop-next.invariant.fits)

pub loop-next-preserved : goal.loop-next-preserved
loop-next-preserved c =
    let e : c.in-Some.next ≡ c.loop-next.count + 1 = c.in-Some.ensures.1 in
    let h : c.loop-next.count < length c.args.clerk.now.state.cases = one_next c.args.clerk.now.state.cases _ _ _ _ c.filing.ensures e c.is_none.ensures c.if-is_none.false in
    record { least = omega (arith, h, e); fits = omega (arith, e, c.in-Some.ensures.0) }

pub returns : goal.returns
returns c = omega (arith, c.in_default.ensures, c.loop-next.invariant.least, c.loop-next.invariant.fits)
