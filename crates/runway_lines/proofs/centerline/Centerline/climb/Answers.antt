use Rattle.std.proofs.Common.{◌≡◌, ◌≤◌, pos, ◌*ℤ◌, unsigned_abs, FitsSigned, w64, to_z, to_z-of_z, arith}
use Rattle.std.specs.Int.{w128, int_div_euclid}
use Rattle.std.proofs.lemmas.Int.{ints, to_z_pos}
use Rattle.runway_lines.proofs.ElevationFacts.{climb_size}
use Rattle.runway_lines.proofs.centerline.Centerline.climb.Goals as goal
use Rattle.runway_lines.proofs.centerline.Centerline.climb.Goals.{After-div_euclid}

quotient : (c : goal.After-div_euclid) → c.div_euclid.result ≡ int_div_euclid (c.args.self.now.rise *ℤ c.progress.result) (pos c.square-square.result)
quotient c =
    let fr : FitsSigned w64 c.args.self.now.rise = omega (arith, ints, c.args.self.now.sloped.rise_size) in
    let fp : FitsSigned w128 c.progress.result = omega (arith, ints) in
    let fs : FitsSigned w128 c.scale.result = omega (arith, ints) in
    let es : c.scale.result ≡ c.args.self.now.rise *ℤ c.progress.result = simp to_z-of_z at c.scale.ensures.value in
    let en : to_z w128 c.square-square.result ≡ pos c.square-square.result = to_z_pos w128 c.square-square.result (omega (arith, c.square-square.ensures.value, c.square-square.ensures.line.size)) in
    rw (en, es) at (simp to_z-of_z at c.div_euclid.ensures)

size : (c : goal.After-div_euclid) → unsigned_abs c.div_euclid.result ≤ unsigned_abs c.args.self.now.rise
size c =
    let e : c.square-square.result ≡ c.args.at.now.square = c.square-square.ensures.value in
    rw (quotient c, e)
    (climb_size c.args.self.now.rise c.progress.result c.args.at.now.square c.square-square.ensures.line.some c.progress.ensures.least c.progress.ensures.most)

pub overflow_cast-result : goal.overflow_cast-result
overflow_cast-result c =
    let fd : FitsSigned w128 c.div_euclid.result = omega (arith, ints) in
    simp to_z-of_z (omega (arith, ints, size c, c.args.self.now.sloped.rise_size))

pub returns-clause-value : goal.returns-clause-value
returns-clause-value c =
    let fd : FitsSigned w128 c.div_euclid.result = omega (arith, ints) in
    let fe : FitsSigned w64 c.div_euclid.result = omega (arith, ints, size c, c.args.self.now.sloped.rise_size) in
    simp to_z-of_z (rw (c.progress.ensures.value, c.square-square.ensures.value) at (quotient c))

pub returns-clause-size : goal.returns-clause-size
returns-clause-size c =
    let fd : FitsSigned w128 c.div_euclid.result = omega (arith, ints) in
    let fe : FitsSigned w64 c.div_euclid.result = omega (arith, ints, size c, c.args.self.now.sloped.rise_size) in
    simp to_z-of_z (omega (arith, size c, c.args.self.now.sloped.rise_size))
