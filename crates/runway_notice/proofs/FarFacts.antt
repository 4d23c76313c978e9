-- Points that are far from both ends of a line in one coordinate.
use Rattle.std.proofs.Common.{◌≡◌, inl, inr, ℕ, suc, ◌+◌, ◌-◌, ◌*◌, ◌<◌, ◌≤◌, ℤ, pos, negsuc, ◌+ℤ◌, ◌-ℤ◌, ◌*ℤ◌, ◌≤ℤ◌, neg_ℤ, unsigned_abs, arith, subst, false, int_lt}
use Rattle.std.proofs.lemmas.Bool.{cases_Bool, cases_lt}
use Rattle.std.proofs.lemmas.Int.{ints, unsigned_abs-mul}
use Rattle.std.proofs.Math.Nat.{mul-le-mul, mul-le-mul_left, mul-lt-mul_of_pos_right}
use Rattle.grid_exact.specs.Vector.{along_of, across_of, length_of}
use Rattle.grid_exact.proofs.IntLaws.{add-mul, sub-mul, mul-sub}
use Rattle.grid_exact.proofs.Sizes.{abs_add_le}
use Rattle.grid_exact.proofs.Vectors.{lagrange}
use Rattle.runway_lines.specs.Centerlines.{clamped_length}

-- ---- over the natural numbers
twice_up : (x k : ℕ) → 2 * (x * (x + k)) ≤ x * x + (x + k) * (x + k)
twice_up x k = omega arith

twice : (x y : ℕ) → 2 * (x * y) ≤ x * x + y * y
twice x y = elim (cases_lt x y) [
  | inl l ↦ (let e : x + (y - x) ≡ y = omega arith in subst (λ (n : ℕ). 2 * (x * n) ≤ x * x + n * n) e (twice_up x (y - x)))
  | inr l ↦ (let e : y + (x - y) ≡ x = omega arith in let h = subst (λ (n : ℕ). 2 * (y * n) ≤ y * y + n * n) e (twice_up y (x - y)) in omega (arith, h))
]

-- a length is at least its part in any direction
cauchy : (p q a b : ℕ) → (p * a + q * b) * (p * a + q * b) ≤ (p * p + q * q) * (a * a + b * b)
cauchy p q a b = omega (arith, twice (p * b) (q * a))

away : (p q a b w : ℕ) → 0 < a * a + b * b → (a * a + b * b) * w ≤ p * a + q * b → w * w * (a * a + b * b) ≤ p * p + q * q
away p q a b w some h =
    let n = a * a + b * b in
    elim (cases_lt (p * p + q * q) (w * w * n)) [
      | inl l ↦ absurd (omega (arith, mul-lt-mul_of_pos_right l some, mul-le-mul h h, cauchy p q a b))
      | inr l ↦ l
    ]

between : (r s g h w : ℕ) → w ≤ g → w ≤ h → (s + r) * w ≤ r * g + s * h
between r s g h w a b = omega (arith, mul-le-mul_left r a, mul-le-mul_left s b)

-- ---- of a vector (vx, vy) to the point, and the vector (wx, wy) of the line
-- t of n parts along, the way from the line to the point in one coordinate
along_and_aside : (vx vy wx wy t : ℤ) → pos (length_of wx wy) *ℤ vx -ℤ t *ℤ wx ≡ (along_of vx vy wx wy -ℤ t) *ℤ wx +ℤ across_of vx vy wx wy *ℤ wy
along_and_aside vx vy wx wy t =
    let m = along_of vx vy wx wy in
    let a1 : wx *ℤ vy ≡ vy *ℤ wx = omega (arith, ints) in
    let a2 : wy *ℤ vx ≡ vx *ℤ wy = omega (arith, ints) in
    let a3 : wx *ℤ vx +ℤ wy *ℤ vy ≡ vx *ℤ wx +ℤ vy *ℤ wy = omega (arith, ints) in
    let e : pos (length_of wx wy) *ℤ vx +ℤ (vy *ℤ wx -ℤ vx *ℤ wy) *ℤ wy ≡ m *ℤ wx = rw (a1, a2, a3) at (lagrange wx wy vx vy) in
    omega (arith, ints, e, sub-mul (vy *ℤ wx) (vx *ℤ wy) wy, sub-mul (vx *ℤ wy) (vy *ℤ wx) wy, sub-mul m t wx)

-- its size is at most that of the parts
parts_most : (vx vy wx wy t : ℤ) → unsigned_abs (pos (length_of wx wy) *ℤ vx -ℤ t *ℤ wx) ≤ unsigned_abs (along_of vx vy wx wy -ℤ t) * unsigned_abs wx + unsigned_abs (across_of vx vy wx wy) * unsigned_abs wy
parts_most vx vy wx wy t =
    let p = along_of vx vy wx wy -ℤ t in
    let q = across_of vx vy wx wy in
    rw (along_and_aside vx vy wx wy t) (omega (arith, abs_add_le (p *ℤ wx) (q *ℤ wy), unsigned_abs-mul p wx, unsigned_abs-mul q wy))

-- two ways to the same side
pub data SameSide : ℤ → ℤ → Type 0 where
  east : (g h : ℕ) → SameSide (pos g) (pos h)
  west : (g h : ℕ) → SameSide (negsuc g) (negsuc h)

negative_sum : (x y : ℕ) → unsigned_abs (neg_ℤ (pos x) +ℤ neg_ℤ (pos y)) ≡ x + y
negative_sum x y = omega (arith, ints)

side_sum : (a b : ℤ) (r s : ℕ) → SameSide a b → unsigned_abs (pos r *ℤ a +ℤ pos s *ℤ b) ≡ r * unsigned_abs a + s * unsigned_abs b
side_sum a b r s (east g h) = omega (arith, ints)
side_sum a b r s (west g h) = negative_sum (r * suc g) (s * suc h)

-- where both ends are at least w away to one side, s of s + r parts along the line is as far
parts_least : (vx wx : ℤ) (r s w : ℕ) → SameSide vx (vx -ℤ wx) → w ≤ unsigned_abs vx → w ≤ unsigned_abs (vx -ℤ wx) → (s + r) * w ≤ unsigned_abs (pos (s + r) *ℤ vx -ℤ pos s *ℤ wx)
parts_least vx wx r s w side a b =
    let e : pos (s + r) *ℤ vx -ℤ pos s *ℤ wx ≡ pos r *ℤ vx +ℤ pos s *ℤ (vx -ℤ wx) = omega (arith, ints, add-mul (pos s) (pos r) vx, mul-sub (pos s) vx wx) in
    rw (e, side_sum vx (vx -ℤ wx) r s side) (between r s (unsigned_abs vx) (unsigned_abs (vx -ℤ wx)) w a b)

-- a part of n
pub record IsPart (t : ℤ) (n : ℕ) : Type 0 where
  pub least : pos 0 ≤ℤ t
  pub most : t ≤ℤ pos n

pub clamped_part : (m : ℤ) (n : ℕ) → IsPart (clamped_length m n) n
clamped_part m n = elim (cases_Bool (int_lt m (pos 0))) [
  | inl t ↦ rw t (record { least = omega (arith, ints); most = omega (arith, ints) })
  | inr f ↦ elim (cases_Bool (int_lt (pos n) m)) [
    | inl t ↦ rw (f, t) (record { least = omega (arith, ints); most = omega (arith, ints) })
    | inr g ↦ rw (f, g) (record { least = not_below m (pos 0) f; most = not_below (pos n) m g })
  ]
]
  where
    not_below : (x y : ℤ) → int_lt x y ≡ false → y ≤ℤ x
    not_below x y e = grind (arith, ints)

far_part : (vx wx t : ℤ) (n w : ℕ) → IsPart t n → SameSide vx (vx -ℤ wx) → w ≤ unsigned_abs vx → w ≤ unsigned_abs (vx -ℤ wx) → n * w ≤ unsigned_abs (pos n *ℤ vx -ℤ t *ℤ wx)
far_part vx wx t n w part side a b =
    let s = unsigned_abs t in
    let r = unsigned_abs (pos n -ℤ t) in
    let e : pos s ≡ t = omega (arith, ints, part.least) in
    let f : s + r ≡ n = omega (arith, ints, part.least, part.most) in
    let low : (s + r) * w ≤ unsigned_abs (pos (s + r) *ℤ vx -ℤ pos s *ℤ wx) = parts_least vx wx r s w side a b in
    let whole = subst (λ (k : ℕ). k * w ≤ unsigned_abs (pos k *ℤ vx -ℤ pos s *ℤ wx)) f low in
    subst (λ (z : ℤ). n * w ≤ unsigned_abs (pos n *ℤ vx -ℤ z *ℤ wx)) e whole

-- the square of the distance to the line, where both ends are at least w away to one side in one coordinate
pub far_aside : (vx vy wx wy : ℤ) (w : ℕ) → 0 < length_of wx wy → SameSide vx (vx -ℤ wx) → w ≤ unsigned_abs vx → w ≤ unsigned_abs (vx -ℤ wx) →
    w * w * length_of wx wy ≤ unsigned_abs (along_of vx vy wx wy -ℤ clamped_length (along_of vx vy wx wy) (length_of wx wy)) * unsigned_abs (along_of vx vy wx wy -ℤ clamped_length (along_of vx vy wx wy) (length_of wx wy)) + unsigned_abs (across_of vx vy wx wy) * unsigned_abs (across_of vx vy wx wy)
far_aside vx vy wx wy w some side a b =
    let n = length_of wx wy in
    let t = clamped_length (along_of vx vy wx wy) n in
    away (unsigned_abs (along_of vx vy wx wy -ℤ t)) (unsigned_abs (across_of vx vy wx wy)) (unsigned_abs wx) (unsigned_abs wy) w some
    (omega (arith, far_part vx wx t n w (clamped_part (along_of vx vy wx wy) n) side a b, parts_most vx vy wx wy t))
