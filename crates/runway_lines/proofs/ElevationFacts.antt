-- The elevation of the nearest point of a centerline.
use Rattle.std.proofs.Common.{inl, inr, ℕ, ◌+◌, ◌*◌, ◌<◌, ◌≤◌, ℤ, pos, negsuc, ◌*ℤ◌, ◌≤ℤ◌, unsigned_abs, arith}
use Rattle.std.specs.Int.{int_div_euclid}
use Rattle.std.proofs.Math.Nat.{mul-le-mul_left, mul-le-mul_right}
use Rattle.std.proofs.lemmas.Bool.{cases_lt}
use Rattle.std.proofs.lemmas.Int.{ints, unsigned_abs-mul}
use borrow.Author.Differences.{up, down}

-- the quotient, rounded down
quotient_parts : (a : ℤ) (k : ℕ) → 0 < k →
    (up (int_div_euclid a (pos k)) * k + down a ≤ down (int_div_euclid a (pos k)) * k + up a) × (down (int_div_euclid a (pos k)) * k + up a < up (int_div_euclid a (pos k)) * k + down a + k)
quotient_parts (pos a) k h = omega arith
quotient_parts (negsuc a) k h = omega arith

-- a quotient of a number from -m * k to m * k is from -m to m
quotient_least : (q m k : ℕ) → 0 < k → q * k ≤ m * k → q ≤ m
quotient_least q m k p h = elim (cases_lt m q) [ inl l ↦ absurd (omega (arith, mul-le-mul_right k l, h)) | inr l ↦ l ]

quotient_below : (q m k : ℕ) → q * k < m * k + k → q ≤ m
quotient_below q m k h = elim (cases_lt m q) [ inl l ↦ absurd (omega (arith, mul-le-mul_right k l, h)) | inr l ↦ l ]

quotient_size : (a : ℤ) (m k : ℕ) → 0 < k → unsigned_abs a ≤ m * k → unsigned_abs (int_div_euclid a (pos k)) ≤ m
quotient_size (pos a) m k p h =
    let q = quotient_parts (pos a) k p in
    quotient_least (unsigned_abs (int_div_euclid (pos a) (pos k))) m k p (omega (arith, ints, q.0, h))
quotient_size (negsuc a) m k p h =
    let q = quotient_parts (negsuc a) k p in
    quotient_below (unsigned_abs (int_div_euclid (negsuc a) (pos k))) m k (omega (arith, ints, q.1, h))

-- a rise times a part t of n, over n
pub climb_size : (rise t : ℤ) (n : ℕ) → 0 < n → pos 0 ≤ℤ t → t ≤ℤ pos n → unsigned_abs (int_div_euclid (rise *ℤ t) (pos n)) ≤ unsigned_abs rise
climb_size rise t n p l h =
    quotient_size (rise *ℤ t) (unsigned_abs rise) n p (rw unsigned_abs-mul (mul-le-mul_left (unsigned_abs rise) (omega (arith, ints, l, h))))
