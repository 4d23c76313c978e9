use Rattle.std.proofs.Common.{◌≡◌, ◌≤◌, ◌^◌, pos, ◌*ℤ◌, unsigned_abs, FitsSigned, w64, to_z-of_z, arith}
use Rattle.std.specs.Int.{int_div_euclid}
use Rattle.std.proofs.lemmas.Int.{ints}
use Rattle.runway_lines.proofs.ElevationFacts.{climb_size}
use Rattle.runway_notice.proofs.CandidateFacts.{product_size}
use Rattle.runway_notice.proofs.candidate.Candidate.climb.Goals as goal
use Rattle.runway_notice.proofs.candidate.Candidate.climb.Goals.{After-quotient}

pub overflow_mul-self : goal.overflow_mul-self
overflow_mul-self c =
    let rise = c.args.self.now.line.rise in
    let along = c.args.self.now.at.along in
    let size : unsigned_abs along ≤ 2 ^ 37 = omega (arith, ints, c.requires.least, c.requires.most, c.args.self.now.at.sizes.line.size) in
    let most : unsigned_abs (rise *ℤ along) ≤ 2 ^ 55 = product_size rise along c.args.self.now.line.sloped.rise_size size in
    let fr : FitsSigned w64 rise = omega (arith, ints, c.args.self.now.line.sloped.rise_size) in
    let fa : FitsSigned w64 along = omega (arith, ints, size) in
    simp to_z-of_z (omega (arith, ints, most))

pub quotient-requires-clause-number : goal.quotient-requires-clause-number
quotient-requires-clause-number c =
    let rise = c.args.self.now.line.rise in
    let along = c.args.self.now.at.along in
    let size : unsigned_abs along ≤ 2 ^ 37 = omega (arith, ints, c.requires.least, c.requires.most, c.args.self.now.at.sizes.line.size) in
    let most : unsigned_abs (rise *ℤ along) ≤ 2 ^ 55 = product_size rise along c.args.self.now.line.sloped.rise_size size in
    let fr : FitsSigned w64 rise = omega (arith, ints, c.args.self.now.line.sloped.rise_size) in
    let fa : FitsSigned w64 along = omega (arith, ints, size) in
    let fp : FitsSigned w64 (rise *ℤ along) = omega (arith, ints, most) in
    simp to_z-of_z (omega (arith, most))

quotient : (c : After-quotient) → c.quotient.result ≡ int_div_euclid (c.args.self.now.line.rise *ℤ c.args.self.now.at.along) (pos c.args.self.now.at.square)
quotient c =
    let rise = c.args.self.now.line.rise in
    let along = c.args.self.now.at.along in
    let size : unsigned_abs along ≤ 2 ^ 37 = omega (arith, ints, c.requires.least, c.requires.most, c.args.self.now.at.sizes.line.size) in
    let most : unsigned_abs (rise *ℤ along) ≤ 2 ^ 55 = product_size rise along c.args.self.now.line.sloped.rise_size size in
    let fr : FitsSigned w64 rise = omega (arith, ints, c.args.self.now.line.sloped.rise_size) in
    let fa : FitsSigned w64 along = omega (arith, ints, size) in
    let fp : FitsSigned w64 (rise *ℤ along) = omega (arith, ints, most) in
    simp to_z-of_z at c.quotient.ensures

size : (c : After-quotient) → unsigned_abs c.quotient.result ≤ 2 ^ 18
size c =
    let rise = c.args.self.now.line.rise in
    let most = climb_size rise c.args.self.now.at.along c.args.self.now.at.square c.args.self.now.at.sizes.line.some c.requires.least c.requires.most in
    rw (quotient c) (omega (arith, most, c.args.self.now.line.sloped.rise_size))

pub returns-clause-value : goal.returns-clause-value
returns-clause-value c =
    let fq : FitsSigned w64 c.quotient.result = omega (arith, ints, size c) in
    simp to_z-of_z (quotient c)

pub returns-clause-size : goal.returns-clause-size
returns-clause-size c =
    let fq : FitsSigned w64 c.quotient.result = omega (arith, ints, size c) in
    simp to_z-of_z (size c)
