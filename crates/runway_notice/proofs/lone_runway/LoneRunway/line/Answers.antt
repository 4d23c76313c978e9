use Rattle.std.proofs.Common.{◌-ℤ◌, FitsSigned, w64, to_z-of_z, arith}
use Rattle.std.proofs.lemmas.Int.{ints}
use Rattle.runway_notice.proofs.ShortFacts.{line_is, way_square}
use Rattle.runway_notice.proofs.lone_runway.LoneRunway.line.Goals as goal

pub invariant_of-result : goal.invariant_of-result
invariant_of-result c =
    let l = c.self.inside in
    let ready = c.self.invariant in
    record { square = way_square l.runway l.first l.second c.to_end.result.x c.to_end.result.y ready.proper ready.first_is ready.second_is c.to_end.ensures.x c.to_end.ensures.y }

pub returns : goal.returns
returns c =
    let l = c.self.inside in
    let ready = c.self.invariant in
    let z = c.elevation-z.result in
    let w = c.elevation.result in
    let fz : FitsSigned w64 z = omega (arith, ints, c.elevation-z.ensures.size) in
    let fw : FitsSigned w64 w = omega (arith, ints, c.elevation.ensures.size) in
    let fd : FitsSigned w64 (w -ℤ z) = omega (arith, ints, c.elevation-z.ensures.size, c.elevation.ensures.size) in
    simp to_z-of_z (line_is l.runway c.args.self.now l.first l.second c.start.result.x c.start.result.y c.to_end.result.x c.to_end.result.y z w c.self.view_is ready.first_is ready.second_is
    c.start.ensures.x c.start.ensures.y c.to_end.ensures.x c.to_end.ensures.y c.elevation-z.ensures.value c.elevation.ensures.value)
