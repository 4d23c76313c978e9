-- Of equal radii the tangents touch the arcs abreast of the centers.
use Rattle.std.proofs.Common.{◌≡◌, ◌↔◌, ℕ, ℤ, pos, negsuc, neg_ℤ, ◌-◌, ◌*◌, ◌<◌, ◌≤◌, ◌-ℤ◌, ◌≤ℤ◌, IsTrue, Bool, arith, sym, subst}
use Rattle.std.proofs.lemmas.Int.{ints}
use Rattle.grid_exact.specs.Root.{AtMostRoot}
use Rattle.grid_exact.proofs.RootSums.{at_zero}
use Rattle.horizontal_hull.specs.Bands.{IsBetween}

-- nothing is at most b times the root of something exactly where b is not negative
not_negative : (b : ℤ) (n : ℕ) → pos 0 ≤ℤ b → AtMostRoot (pos 0) b n
not_negative (pos m) n h = record { at_most = omega (arith, ints) }
not_negative (negsuc m) n h = absurd (omega (arith, ints, h))

abbrev pub IsAbreast : ℕ → ℤ → Type 0
IsAbreast square along = (0 < square) × ((pos 0 ≤ℤ along) × (along ≤ℤ pos square))

abreast_in : (square : ℕ) (along : ℤ) (across : ℕ) → IsAbreast square along → IsBetween square along across 0
abreast_in square along across h =
    let z : pos (0 * across) ≡ pos 0 = omega (arith, ints) in
    let y : neg_ℤ (pos (0 * across)) ≡ pos 0 = omega (arith, ints) in (
      omega (arith, h.0),
      (
        subst (λ a. AtMostRoot a along (square - 0 * 0)) (sym y) (not_negative along (square - 0 * 0) h.1.0),
        subst (λ a. AtMostRoot a (pos square -ℤ along) (square - 0 * 0)) (sym z) (not_negative (pos square -ℤ along) (square - 0 * 0) (omega (arith, ints, h.1.1))),
      ),
    )

abreast_out : (square : ℕ) (along : ℤ) (across : ℕ) → IsBetween square along across 0 → IsAbreast square along
abreast_out square along across h =
    let p : 0 < square = omega (arith, h.0) in
    let q : 0 < square - 0 * 0 = omega (arith, h.0) in
    let z : pos (0 * across) ≡ pos 0 = omega (arith, ints) in
    let y : neg_ℤ (pos (0 * across)) ≡ pos 0 = omega (arith, ints) in
    let l : pos 0 ≤ℤ (pos square -ℤ along) = at_zero (pos square -ℤ along) (square - 0 * 0) q (subst (λ a. AtMostRoot a (pos square -ℤ along) (square - 0 * 0)) z h.1.1) in
    (p, (at_zero along (square - 0 * 0) q (subst (λ a. AtMostRoot a along (square - 0 * 0)) y h.1.0), omega (arith, ints, l)))

pub abreast_between : (square : ℕ) (along : ℤ) (across growth : ℕ) (r : Bool) → growth ≡ 0 → (IsTrue r ↔ IsAbreast square along) → IsTrue r ↔ IsBetween square along across growth
abreast_between square along across growth r e h = rw e (λ t. abreast_in square along across (h.0 t), λ b. h.1 (abreast_out square along across b))
