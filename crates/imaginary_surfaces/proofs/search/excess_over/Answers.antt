use Rattle.std.proofs.Common.{ℤ, ◌*ℤ◌, ◌-ℤ◌, ◌≤ℤ◌, FitsSigned, w64, to_z-of_z, arith}
use Rattle.std.proofs.lemmas.Int.{ints}
use Rattle.grid_exact.specs.Laws.{BelowRoot-AtMostRoot}
use Rattle.grid_exact.specs.Level.{Reaches}
use Rattle.grid_exact.specs.Root.{BelowRoot}
use Rattle.grid_exact.proofs.ExcessLemmas.{exceeds_by}
use Rattle.imaginary_surfaces.proofs.search.excess_over.Goals as goal
use Rattle.imaginary_surfaces.proofs.search.excess_over.Goals.{After-least_level}

-- the top is above the slope, and so not under the least level that reaches it
above : (c : After-least_level) → BelowRoot c.args.slope.now.a (c.args.slope.now.k *ℤ c.args.top -ℤ c.args.slope.now.c) c.args.slope.now.n
above c =
    let ft : FitsSigned w64 c.args.top = c.ranges.top in
    simp to_z-of_z at (c.is_exceeded.ensures.0 c.if-not-is_exceeded.false)

ordered : (c : After-least_level) → c.least_level.result ≤ℤ c.args.top
ordered c =
    let s = c.args.slope.now in
    c.least_level.ensures.least c.args.top (BelowRoot-AtMostRoot s.a (s.k *ℤ c.args.top -ℤ s.c) s.n (above c))

pub overflow_cast-result : goal.overflow_cast-result
overflow_cast-result c =
    let ft : FitsSigned w64 c.args.top = c.ranges.top in
    let fl : FitsSigned w64 c.least_level.result = omega (arith, ints, c.least_level.ensures.level) in
    let fd : FitsSigned w64 (c.args.top -ℤ c.least_level.result) = omega (arith, ints, c.least_level.ensures.level, c.requires.top) in
    simp to_z-of_z (omega (arith, ints, c.least_level.ensures.level, c.requires.top, ordered c), omega (arith, ints, c.least_level.ensures.level, c.requires.top, ordered c))

pub returns-clause-excess : goal.returns-clause-excess
returns-clause-excess c =
    let s = c.args.slope.now in
    let ft : FitsSigned w64 c.args.top = c.ranges.top in
    let fl : FitsSigned w64 c.least_level.result = omega (arith, ints, c.least_level.ensures.level) in
    let fd : FitsSigned w64 (c.args.top -ℤ c.least_level.result) = omega (arith, ints, c.least_level.ensures.level, c.requires.top) in
    let e = exceeds_by (λ (z : ℤ). BelowRoot s.a (s.k *ℤ z -ℤ s.c) s.n) (λ (z : ℤ). Reaches s.a s.k s.c s.n z) c.args.top c.least_level.result
    (λ z h. BelowRoot-AtMostRoot s.a (s.k *ℤ z -ℤ s.c) s.n h) (above c) c.least_level.ensures.reached c.least_level.ensures.least in
    simp to_z-of_z (record { covers = e.covers; above = e.above; at_or_above = e.at_or_above; greatest = e.greatest })

pub returns-clause-size : goal.returns-clause-size
returns-clause-size c =
    let ft : FitsSigned w64 c.args.top = c.ranges.top in
    let fl : FitsSigned w64 c.least_level.result = omega (arith, ints, c.least_level.ensures.level) in
    let fd : FitsSigned w64 (c.args.top -ℤ c.least_level.result) = omega (arith, ints, c.least_level.ensures.level, c.requires.top) in
    simp to_z-of_z (omega (arith, ints, c.least_level.ensures.level, c.requires.top, ordered c))
