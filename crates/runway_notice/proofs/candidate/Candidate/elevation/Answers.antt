use Rattle.std.proofs.Common.{pos, ◌+ℤ◌, FitsSigned, w64, to_z-of_z, arith}
use Rattle.std.proofs.lemmas.Int.{ints}
use Rattle.grid_exact.proofs.Booleans.{not_from_false}
use Rattle.runway_notice.proofs.CandidateFacts.{end_elevation, middle_elevation, not_below, start_elevation}
use Rattle.runway_notice.proofs.candidate.Candidate.elevation.Goals as goal

pub returns-then-is_before-clause-value : goal.returns-then-is_before-clause-value
returns-then-is_before-clause-value c =
    let proper = c.requires.proper in
    let fz : FitsSigned w64 c.args.self.now.runway.now.end1.z = omega (arith, ints, proper.elevation1.least, proper.elevation1.most) in
    simp to_z-of_z (start_elevation c.args.point.now c.args.self.now c.requires (c.is_before.ensures.0 c.if-is_before.true))

pub returns-then-is_past-clause-value : goal.returns-then-is_past-clause-value
returns-then-is_past-clause-value c =
    let proper = c.requires.proper in
    let fz : FitsSigned w64 c.args.self.now.runway.now.end2.z = omega (arith, ints, proper.elevation2.least, proper.elevation2.most) in
    simp to_z-of_z (end_elevation c.args.point.now c.args.self.now c.requires (c.is_past.ensures.0 c.if-is_past.true))

pub climb-requires-clause-least : goal.climb-requires-clause-least
climb-requires-clause-least c = not_below c.args.self.now.at.along (pos 0) (not_from_false c.is_before.result c.is_before.ensures.1 c.if-is_before.false)

pub climb-requires-clause-most : goal.climb-requires-clause-most
climb-requires-clause-most c = not_below (pos c.args.self.now.at.square) c.args.self.now.at.along (not_from_false c.is_past.result c.is_past.ensures.1 c.if-is_past.false)

pub returns-clause-value : goal.returns-clause-value
returns-clause-value c =
    let self = c.args.self.now in
    let fz : FitsSigned w64 self.line.z = omega (arith, ints, self.line.sloped.z_size) in
    let fc : FitsSigned w64 c.climb.result = omega (arith, ints, c.climb.ensures.size) in
    let fs : FitsSigned w64 (self.line.z +ℤ c.climb.result) = omega (arith, ints, self.line.sloped.z_size, c.climb.ensures.size) in
    simp to_z-of_z (middle_elevation c.args.point.now self c.climb.result c.requires
    (not_below self.at.along (pos 0) (not_from_false c.is_before.result c.is_before.ensures.1 c.if-is_before.false))
    (not_below (pos self.at.square) self.at.along (not_from_false c.is_past.result c.is_past.ensures.1 c.if-is_past.false)) c.climb.ensures.value)
