use Rattle.std.proofs.Common.{◌≡◌, FitsSigned, w64, to_z-of_z, arith}
use Rattle.std.specs.Ordering.{int_cmp}
use Rattle.std.proofs.lemmas.Int.{ints}
use Rattle.runway_notice.proofs.candidate.Candidate.cmp_elevation.Goals as goal

pub returns : goal.returns
returns c =
    let f1 : FitsSigned w64 c.elevation-own.result = omega (arith, ints, c.elevation-own.ensures.size) in
    let f2 : FitsSigned w64 c.elevation.result = omega (arith, ints, c.elevation.ensures.size) in
    let e : c.cmp.result ≡ int_cmp c.elevation-own.result c.elevation.result = simp to_z-of_z at c.cmp.ensures in
    rw (c.elevation-own.ensures.value, c.elevation.ensures.value) at e
