use Rattle.std.proofs.Common.{◌<ℤ◌, pos, FitsSigned, w64, to_z-of_z, arith}
use Rattle.std.proofs.lemmas.Int.{ints}
use Rattle.grid_exact.specs.Excess.{IsExcess}
use Rattle.grid_exact.proofs.TestFacts.{lt_in}
use Rattle.runway_notice.specs.EndSlopes.{end_surface}
use Rattle.runway_notice.proofs.EndExcess.{kept_end, kept_start}
use Rattle.runway_notice.proofs.lone_runway.LoneRunway.excess_over.Goals as goal

pub returns-then-along-lt0 : goal.returns-then-along-lt0
returns-then-along-lt0 c =
    let l = c.self.inside in
    let m = c.along-along.result in
    let b = c.elevation.result in
    let d = c.square_to.result in
    let ft : FitsSigned w64 c.args.top = c.ranges.top in
    let fm : FitsSigned w64 m = omega (arith, ints, c.along-along.ensures.size) in
    let fb : FitsSigned w64 b = omega (arith, ints, c.elevation.ensures.size) in
    let before : m <ℤ pos 0 = lt_in m (pos 0) (simp to_z-of_z at c.if-along-lt0.true) in
    let over : IsExcess (end_surface l.sub b d) c.args.top c.end_excess.result = simp to_z-of_z at c.end_excess.ensures in
    kept_start c.args.airport.now l.runway c.args.self.now c.args.point.now c.args.top m b l.square l.first l.second l.sub d c.end_excess.result c.self.view_is c.self.invariant c.requires.lone c.requires.top
    c.along-along.ensures.value before c.elevation.ensures.value c.square_to.ensures over

pub returns-then-self-along : goal.returns-then-self-along
returns-then-self-along c =
    let l = c.self.inside in
    let m = c.along-along.result in
    let b = c.elevation-then-self-along.result in
    let d = c.square_to-then-self-along.result in
    let e = c.end_excess-then-self-along.result in
    let ft : FitsSigned w64 c.args.top = c.ranges.top in
    let fm : FitsSigned w64 m = omega (arith, ints, c.along-along.ensures.size) in
    let fb : FitsSigned w64 b = omega (arith, ints, c.elevation-then-self-along.ensures.size) in
    let fn : FitsSigned w64 l.square = omega (arith, ints) in
    let past : l.square <ℤ m = lt_in l.square m (simp to_z-of_z at c.if-self-along.true) in
    let over : IsExcess (end_surface l.sub b d) c.args.top e = simp to_z-of_z at c.end_excess-then-self-along.ensures in
    kept_end c.args.airport.now l.runway c.args.self.now c.args.point.now c.args.top m b l.square l.first l.second l.sub d e c.self.view_is c.self.invariant c.requires.lone c.requires.top
    c.along-along.ensures.value past c.elevation-then-self-along.ensures.value c.square_to-then-self-along.ensures over
