use Rattle.std.proofs.Common.{◌≡◌, ◌^◌, ◌*◌, ◌≤◌, pos, unsigned_abs, ◌-ℤ◌, ◌*ℤ◌, ◌≤ℤ◌, ◌<ℤ◌, FitsSigned, w64, to_z, to_z-of_z, arith}
use Rattle.std.proofs.lemmas.Int.{ints, to_z_pos}
use Rattle.grid_exact.proofs.Sizes.{abs_mul_le}
use Rattle.grid_exact.proofs.TestFacts.{le_in, lt_in}
use Rattle.runway_notice.specs.declared.guesses.TheConstants.{GUESS_LIMIT}
use Rattle.runway_notice.proofs.QuotientFacts.{quotient_is}
use Rattle.runway_notice.proofs.guesses.quotient.Goals as goal

pub returns-then-rest-divisor : goal.returns-then-rest-divisor
returns-then-rest-divisor c =
    let q = c.args.guess in
    let n = c.args.number in
    let d = c.args.divisor in
    let fq : FitsSigned w64 q = c.ranges.guess in
    let fn : FitsSigned w64 n = c.ranges.number in
    let ed : to_z w64 d ≡ pos d = to_z_pos w64 d (omega (arith, c.requires.divisor)) in
    let m : unsigned_abs (q *ℤ pos d) ≤ unsigned_abs GUESS_LIMIT * 2 ^ 37 = abs_mul_le q (pos d) (unsigned_abs GUESS_LIMIT) (2 ^ 37) c.requires.guess c.requires.divisor in
    let fm : FitsSigned w64 (q *ℤ pos d) = omega (arith, ints, m) in
    let fr : FitsSigned w64 (n -ℤ q *ℤ pos d) = omega (arith, ints, m, c.requires.number) in
    let l : pos 0 ≤ℤ (n -ℤ q *ℤ pos d) = le_in (pos 0) (n -ℤ q *ℤ pos d) (simp (to_z-of_z, ed) at c.if-rest-ge0.true) in
    let h : (n -ℤ q *ℤ pos d) <ℤ pos d = lt_in (n -ℤ q *ℤ pos d) (pos d) (simp (to_z-of_z, ed) at c.if-rest-divisor.true) in
    simp to_z-of_z (quotient_is n q d l h)
