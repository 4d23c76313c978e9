-- A whole number is a quotient, rounded down, where it leaves a rest from 0 to below the divisor.
use Rattle.std.proofs.Common.{◌≡◌, ◌∙◌, sym, ◌/◌, ℕ, ◌+◌, ◌-◌, ◌*◌, ℤ, pos, negsuc, ◌-ℤ◌, ◌*ℤ◌, ◌≤ℤ◌, ◌<ℤ◌, arith, ap}
use Rattle.std.specs.Int.{int_div_euclid}
use Rattle.std.proofs.lemmas.Int.{ints}
use Rattle.std.proofs.lemmas.Nat.{div-mul-add}

pub quotient_is : (n q : ℤ) (d : ℕ) → pos 0 ≤ℤ (n -ℤ q *ℤ pos d) → (n -ℤ q *ℤ pos d) <ℤ pos d → q ≡ int_div_euclid n (pos d)
quotient_is (pos a) (pos q) d l h =
    let r = a - q * d in
    let e : q * d + r ≡ a = omega (arith, ints, l) in
    ap pos (sym (ap (λ x. x / d) (sym e) ∙ div-mul-add q d r (omega (arith, ints, l, h))))
quotient_is (pos a) (negsuc q) d l h = absurd (omega (arith, ints, l, h))
quotient_is (negsuc a) (pos q) d l h = absurd (omega (arith, ints, l, h))
quotient_is (negsuc a) (negsuc q) d l h =
    let r = a - q * d in
    let e : q * d + r ≡ a = omega (arith, ints, l, h) in
    ap negsuc (sym (ap (λ x. x / d) (sym e) ∙ div-mul-add q d r (omega (arith, ints, l, h))))
