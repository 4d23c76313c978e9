-- Where an end of a runway is nearest to a point, the square of the distance is a whole number.
use Rattle.std.proofs.Common.{◌≡◌, ◌↔◌, ◌∙◌, inl, inr, ℕ, ◌+◌, ◌*◌, ◌<◌, ◌≤◌, ℤ, pos, ◌+ℤ◌, ◌-ℤ◌, ◌*ℤ◌, ◌<ℤ◌, unsigned_abs, true, false, int_lt, arith, refl, sym, ap}
use Rattle.std.proofs.Math.IntN.{*ℤ_comm}
use Rattle.std.proofs.Math.Nat.{mul-le-mul_right, mul-lt-mul_of_pos_right}
use Rattle.std.proofs.lemmas.Bool.{cases_lt}
use Rattle.std.proofs.lemmas.Int.{ints}
use Rattle.grid_exact.specs.Vector.{along_of, across_of, length_of}
use Rattle.grid_exact.proofs.IntLaws.{abs_square, add-mul, mul-add, mul-sub, mul_assoc, sub-mul}
use Rattle.grid_exact.proofs.TestFacts.{lt_out}
use Rattle.runway_lines.specs.Centerlines.{clamped_length}
use Rattle.runway_notice.specs.Distances.{Fraction, IsAtLeastRootOf, IsAboveRootOf}
use Rattle.runway_notice.specs.EndSlopes.{whole_fraction}

-- ---- of two vectors the squares of the inner and the cross product make the product of the squares of their lengths
paired : (a b c d : ℤ) → (a *ℤ b) *ℤ (c *ℤ d) ≡ (a *ℤ c) *ℤ (b *ℤ d)
paired a b c d =
    mul_assoc a b (c *ℤ d)
    ∙ (ap (λ z. a *ℤ z) (sym (mul_assoc b c d) ∙ (ap (λ z. z *ℤ d) (*ℤ_comm b c) ∙ mul_assoc c b d)) ∙ sym (mul_assoc a c (b *ℤ d)))

square_of_sum : (p q : ℤ) → (p +ℤ q) *ℤ (p +ℤ q) ≡ p *ℤ p +ℤ q *ℤ q +ℤ (p *ℤ q +ℤ q *ℤ p)
square_of_sum p q = omega (arith, ints, add-mul p q (p +ℤ q), mul-add p p q, mul-add q p q)

square_of_difference : (p q : ℤ) → (p -ℤ q) *ℤ (p -ℤ q) ≡ p *ℤ p +ℤ q *ℤ q -ℤ (p *ℤ q +ℤ q *ℤ p)
square_of_difference p q = omega (arith, ints, sub-mul p q (p -ℤ q), mul-sub p p q, mul-sub q p q)

product_of_sums : (a b c d : ℤ) → (a +ℤ b) *ℤ (c +ℤ d) ≡ a *ℤ c +ℤ b *ℤ d +ℤ (a *ℤ d +ℤ b *ℤ c)
product_of_sums a b c d = omega (arith, ints, add-mul a b (c +ℤ d), mul-add a c d, mul-add b c d)

mixed : (a b c d : ℤ) → (a *ℤ b) *ℤ (c *ℤ d) ≡ (a *ℤ d) *ℤ (c *ℤ b)
mixed a b c d = paired a b c d ∙ (ap (λ z. (a *ℤ c) *ℤ z) (*ℤ_comm b d) ∙ sym (paired a d c b))

sums : (pp qq pq qp rr ss rs sr : ℤ) → pq ≡ rs → qp ≡ sr → (pp +ℤ qq +ℤ (pq +ℤ qp)) +ℤ (rr +ℤ ss -ℤ (rs +ℤ sr)) ≡ pp +ℤ qq +ℤ (rr +ℤ ss)
sums pp qq pq qp rr ss rs sr h k = omega (arith, ints, h, k)

squares_are : (ex ey vx vy : ℤ) →
    along_of ex ey vx vy *ℤ along_of ex ey vx vy +ℤ across_of ex ey vx vy *ℤ across_of ex ey vx vy ≡ (ex *ℤ ex +ℤ ey *ℤ ey) *ℤ (vx *ℤ vx +ℤ vy *ℤ vy)
squares_are ex ey vx vy =
    let p = ex *ℤ vx in
    let q = ey *ℤ vy in
    let r = ex *ℤ vy in
    let s = ey *ℤ vx in
    let left : (p +ℤ q) *ℤ (p +ℤ q) +ℤ (r -ℤ s) *ℤ (r -ℤ s) ≡ p *ℤ p +ℤ q *ℤ q +ℤ (r *ℤ r +ℤ s *ℤ s) =
    rw (square_of_sum p q, square_of_difference r s) (sums (p *ℤ p) (q *ℤ q) (p *ℤ q) (q *ℤ p) (r *ℤ r) (s *ℤ s) (r *ℤ s) (s *ℤ r) (mixed ex vx ey vy) (mixed ey vy ex vx)) in
    let right : p *ℤ p +ℤ q *ℤ q +ℤ (r *ℤ r +ℤ s *ℤ s) ≡ (ex *ℤ ex) *ℤ (vx *ℤ vx) +ℤ (ey *ℤ ey) *ℤ (vy *ℤ vy) +ℤ ((ex *ℤ ex) *ℤ (vy *ℤ vy) +ℤ (ey *ℤ ey) *ℤ (vx *ℤ vx)) =
    rw (paired ex vx ex vx, paired ey vy ey vy, paired ex vy ex vy, paired ey vx ey vx) refl in
    left ∙ (right ∙ sym (product_of_sums (ex *ℤ ex) (ey *ℤ ey) (vx *ℤ vx) (vy *ℤ vy)))

length_is : (x y : ℤ) → pos (length_of x y) ≡ x *ℤ x +ℤ y *ℤ y
length_is x y = omega (arith, ints, abs_square x, abs_square y)

both : (a b l m : ℤ) (x y n k : ℕ) → pos x ≡ a → pos y ≡ b → pos n ≡ l → pos k ≡ m → a +ℤ b ≡ l *ℤ m → x + y ≡ n * k
both a b l m x y n k ha hb hl hm e =
    let f : l *ℤ m ≡ pos n *ℤ pos k = ap (λ z. z *ℤ m) (sym hl) ∙ ap (λ z. pos n *ℤ z) (sym hm) in
    omega (arith, ints, f, e, ha, hb)

pub lagrange_squares : (ex ey vx vy : ℤ) →
    unsigned_abs (along_of ex ey vx vy) * unsigned_abs (along_of ex ey vx vy) + unsigned_abs (across_of ex ey vx vy) * unsigned_abs (across_of ex ey vx vy) ≡ length_of ex ey * length_of vx vy
lagrange_squares ex ey vx vy =
    let m = along_of ex ey vx vy in
    let q = across_of ex ey vx vy in
    both (m *ℤ m) (q *ℤ q) (ex *ℤ ex +ℤ ey *ℤ ey) (vx *ℤ vx +ℤ vy *ℤ vy) (unsigned_abs m * unsigned_abs m) (unsigned_abs q * unsigned_abs q) (length_of ex ey) (length_of vx vy)
    (abs_square m) (abs_square q) (length_is ex ey) (length_is vx vy) (squares_are ex ey vx vy)

-- ---- from the end of the second vector
along_from : (ex ey vx vy : ℤ) → along_of (ex -ℤ vx) (ey -ℤ vy) vx vy ≡ along_of ex ey vx vy -ℤ pos (length_of vx vy)
along_from ex ey vx vy = omega (arith, ints, sub-mul ex vx vx, sub-mul ey vy vy, length_is vx vy)

across_from : (ex ey vx vy : ℤ) → across_of (ex -ℤ vx) (ey -ℤ vy) vx vy ≡ across_of ex ey vx vy
across_from ex ey vx vy = omega (arith, ints, sub-mul ex vx vy, sub-mul ey vy vx, *ℤ_comm vx vy)

pub lagrange_from : (ex ey vx vy : ℤ) →
    unsigned_abs (along_of ex ey vx vy -ℤ pos (length_of vx vy)) * unsigned_abs (along_of ex ey vx vy -ℤ pos (length_of vx vy)) + unsigned_abs (across_of ex ey vx vy) * unsigned_abs (across_of ex ey vx vy)
    ≡ length_of (ex -ℤ vx) (ey -ℤ vy) * length_of vx vy
lagrange_from ex ey vx vy = rw (along_from ex ey vx vy, across_from ex ey vx vy) at (lagrange_squares (ex -ℤ vx) (ey -ℤ vy) vx vy)

-- ---- how far a point lies beyond an end
pub beyond_start : (m : ℤ) (n : ℕ) → m <ℤ pos 0 → unsigned_abs (m -ℤ clamped_length m n) ≡ unsigned_abs m
beyond_start m n l = let t : int_lt m (pos 0) ≡ true = lt_out m (pos 0) l in rw t (omega (arith, ints))

pub beyond_end : (m : ℤ) (n : ℕ) → pos n <ℤ m → unsigned_abs (m -ℤ clamped_length m n) ≡ unsigned_abs (m -ℤ pos n)
beyond_end m n l =
    let f : int_lt m (pos 0) ≡ false = grind (arith, ints, l) in
    let t : int_lt (pos n) m ≡ true = lt_out (pos n) m l in
    rw (f, t) refl

-- ---- a factor that the part and the whole of a fraction have both
abbrev pub times : ℕ → ℕ → Fraction
times q n = record { part = q * n; whole = n }

le_cancel : (q s n : ℕ) → 0 < n → q * n ≤ s * n → q ≤ s
le_cancel q s n p h = elim (cases_lt s q) [
  | inl l ↦ absurd (omega (arith, mul-lt-mul_of_pos_right l p, h))
  | inr l ↦ l
]

lt_cancel : (q s n : ℕ) → q * n < s * n → q < s
lt_cancel q s n h = elim (cases_lt q s) [
  | inl l ↦ l
  | inr l ↦ absurd (omega (arith, mul-le-mul_right n l, h))
]

pub at_least_whole : (q n : ℕ) (b : ℤ) → 0 < n → IsAtLeastRootOf (whole_fraction q) b ↔ IsAtLeastRootOf (times q n) b
at_least_whole q n b p =
    let s = unsigned_abs b * unsigned_abs b in (
      λ h. record { not_negative = h.not_negative; square = (let l : q ≤ s = omega (arith, h.square) in mul-le-mul_right n l) },
      λ h. record { not_negative = h.not_negative; square = (let l : q ≤ s = le_cancel q s n p h.square in omega (arith, l)) },
    )

pub above_whole : (q n : ℕ) (b : ℤ) → 0 < n → IsAboveRootOf (whole_fraction q) b ↔ IsAboveRootOf (times q n) b
above_whole q n b p =
    let s = unsigned_abs b * unsigned_abs b in (
      λ h. record { not_negative = h.not_negative; square = (let l : q < s = omega (arith, h.square) in mul-lt-mul_of_pos_right l p) },
      λ h. record { not_negative = h.not_negative; square = (let l : q < s = lt_cancel q s n h.square in omega (arith, l)) },
    )
