use Rattle.std.proofs.Common.{◌≡◌, ◌-ℤ◌, neg_ℤ, pos, FitsSigned, w64, to_z-of_z, arith, ap, ◌∙◌}
use Rattle.std.specs.Int.{int_max}
use Rattle.std.proofs.lemmas.Int.{ints}
use Rattle.imaginary_surfaces.proofs.place.past_either.Goals as goal

pub returns : goal.returns
returns c =
    let a = c.args.along in
    let l = c.args.length in
    let fa : FitsSigned w64 a = c.ranges.along in
    let fl : FitsSigned w64 l = c.ranges.length in
    let fn : FitsSigned w64 (pos 0 -ℤ a) = omega (arith, ints, c.requires.along) in
    let fd : FitsSigned w64 (a -ℤ l) = omega (arith, ints, c.requires.along, c.requires.length) in
    let z : pos 0 -ℤ a ≡ neg_ℤ a = omega (arith, ints) in
    let d : c.max.result ≡ int_max (pos 0 -ℤ a) (a -ℤ l) = simp to_z-of_z at c.max.ensures.value in
    let e : c.max.result ≡ int_max (neg_ℤ a) (a -ℤ l) = d ∙ ap (λ y. int_max y (a -ℤ l)) z in
    let fm : FitsSigned w64 c.max.result = omega (arith, ints) in
    let f : c.max-2.result ≡ int_max c.max.result (pos 0) = simp to_z-of_z at c.max-2.ensures.value in
    let fr : FitsSigned w64 c.max-2.result = omega (arith, ints) in
    simp to_z-of_z (f ∙ ap (λ z. int_max z (pos 0)) e)
