-- Points so far from a runway that a top is above none of its surfaces.
use Rattle.std.proofs.Common.{◌≡◌, ℕ, ◌+◌, ◌*◌, ◌≤◌, ℤ, pos, negsuc, ◌+ℤ◌, ◌-ℤ◌, ◌*ℤ◌, ◌≤ℤ◌, ◌<ℤ◌, neg_ℤ, arith, ap, sym, ◌∙◌}
use Rattle.std.proofs.Math.IntN.{*ℤ_comm}
use Rattle.std.proofs.Math.Nat.{mul-le-mul, mul-le-mul_left}
use Rattle.std.proofs.lemmas.Int.{ints}
use Rattle.grid_exact.specs.Root.{AboveRoot, AtLeastRoot, AtMostRoot, BelowRoot}
use Rattle.grid_exact.proofs.IntLaws.{mul-le_left, mul-le_right, mul-neg, mul-sub, mul-add, mul_assoc}
use Rattle.grid_exact.proofs.RootOrder.{AboveRoot_cut, AtMostRoot_less, AtMostRoot-neg, BelowRoot-AtMostRoot}
use Rattle.grid_exact.proofs.RootSums.{AtMostRoot_add, AtMostRoot-scale}

-- ---- what is longer than a factor times a length that is at least the root is above the factor's root
pub above_root : (part factor : ℤ) (length n : ℕ) → pos 0 ≤ℤ factor → n ≤ length * length → (factor *ℤ pos length) <ℤ part → AboveRoot part factor n
above_root (pos p) (pos f) l n h k m =
    let a : f * f * n ≤ f * f * (l * l) = mul-le-mul_left (f * f) k in
    let b : f * l + 1 ≤ p = omega (arith, ints, m) in
    let d : (f * l + 1) * (f * l + 1) ≤ p * p = mul-le-mul b b in
    record { above = omega (arith, ints, a, d) }
above_root (negsuc p) (pos f) l n h k m = absurd (omega (arith, ints, m))
above_root part (negsuc f) l n h k m = absurd (omega (arith, ints, h))

pub cut_off : (c y z : ℤ) (n : ℕ) → AboveRoot c y n → AtMostRoot c z n → z ≤ℤ y → ⊥
cut_off c y z n h k l = omega (arith, ints, AboveRoot_cut c y z n h k, l)

-- a slope's part of a height is no more than the gentlest slope has of a greater one
slope_most : (s t rise : ℤ) → pos 0 <ℤ s → s ≤ℤ pos 50 → t ≤ℤ rise → pos 0 ≤ℤ rise → (s *ℤ t) ≤ℤ (pos 50 *ℤ rise)
slope_most s t (pos r) p q h k = omega (arith, ints, mul-le_left s t (pos r) p h, mul-le_right s (pos 50) r q)
slope_most s t (negsuc r) p q h k = absurd (omega (arith, ints, k))

-- ---- an approach surface ahead, and beside the widest
pub over_ahead : (m s top base rise : ℤ) (n : ℕ) → pos 0 <ℤ s → s ≤ℤ pos 50 → (top -ℤ base) ≤ℤ rise → pos 0 ≤ℤ rise → AboveRoot m (pos 50 *ℤ rise) n → BelowRoot m (s *ℤ top -ℤ s *ℤ base) n → ⊥
over_ahead m s top base rise n p q h k a b =
    cut_off m (pos 50 *ℤ rise) (s *ℤ top -ℤ s *ℤ base) n a (BelowRoot-AtMostRoot m (s *ℤ top -ℤ s *ℤ base) n b)
    (omega (arith, ints, slope_most s (top -ℤ base) rise p q h k, mul-sub s top base))

pub narrower : (q k m : ℤ) → pos 0 <ℤ m → k ≤ℤ pos 6 → (pos 40 *ℤ q -ℤ pos 6 *ℤ m) ≤ℤ (pos 40 *ℤ q -ℤ k *ℤ m)
narrower q k m p h = omega (arith, ints, mul-le_left m k (pos 6) p h, *ℤ_comm m k, *ℤ_comm m (pos 6))

pub over_aside : (out wide w rise : ℤ) (n : ℕ) → wide ≤ℤ out → pos 0 ≤ℤ rise → AboveRoot wide (pos 20 *ℤ w +ℤ pos 280 *ℤ rise) n → AtMostRoot out (pos 20 *ℤ w) n → ⊥
over_aside out wide w rise n l r a b =
    cut_off wide (pos 20 *ℤ w +ℤ pos 280 *ℤ rise) (pos 20 *ℤ w) n a (AtMostRoot_less out wide (pos 20 *ℤ w) n l b) (omega (arith, ints, r))

-- ---- the transitional surface beside it
factored : (s k w : ℤ) → s *ℤ (k *ℤ w) ≡ k *ℤ (s *ℤ w)
factored s k w = sym (mul_assoc s k w) ∙ (ap (λ z. z *ℤ w) (*ℤ_comm s k) ∙ mul_assoc k s w)

abbrev limit : (s top base w : ℤ) → ℤ
limit s top base w = pos 280 *ℤ s *ℤ top -ℤ (pos 280 *ℤ s *ℤ base -ℤ pos 20 *ℤ s *ℤ w)

limit_is : (s top base w : ℤ) → limit s top base w ≡ pos 280 *ℤ (s *ℤ (top -ℤ base)) +ℤ pos 20 *ℤ (s *ℤ w)
limit_is s top base w = omega (arith, ints, mul_assoc (pos 280) s top, mul_assoc (pos 280) s base, mul_assoc (pos 20) s w, mul-sub s top base)

pub beside_ahead : (s out m w top base rise : ℤ) (n : ℕ) → pos 0 <ℤ s → s ≤ℤ pos 50 → (top -ℤ base) ≤ℤ rise → pos 0 ≤ℤ rise → AboveRoot (pos 280 *ℤ m) (pos 280 *ℤ (pos 50 *ℤ rise)) n →
    AtLeastRoot out (pos 20 *ℤ w) n → BelowRoot (s *ℤ out +ℤ pos 280 *ℤ m) (limit s top base w) n → ⊥
beside_ahead (negsuc s) out m w top base rise n p q h k a f b = absurd (omega (arith, ints, p))
beside_ahead (pos s) out m w top base rise n p q h k a f b =
    let S = pos s in
    let side : AtMostRoot (S *ℤ neg_ℤ out) (S *ℤ neg_ℤ (pos 20 *ℤ w)) n = AtMostRoot-scale s (neg_ℤ out) (neg_ℤ (pos 20 *ℤ w)) n (AtMostRoot-neg out (pos 20 *ℤ w) n f) in
    let both : AtMostRoot ((S *ℤ out +ℤ pos 280 *ℤ m) +ℤ S *ℤ neg_ℤ out) (limit S top base w +ℤ S *ℤ neg_ℤ (pos 20 *ℤ w)) n =
    AtMostRoot_add (S *ℤ out +ℤ pos 280 *ℤ m) (limit S top base w) (S *ℤ neg_ℤ out) (S *ℤ neg_ℤ (pos 20 *ℤ w)) n (BelowRoot-AtMostRoot (S *ℤ out +ℤ pos 280 *ℤ m) (limit S top base w) n b) side in
    let left : (pos 280 *ℤ m) ≤ℤ ((S *ℤ out +ℤ pos 280 *ℤ m) +ℤ S *ℤ neg_ℤ out) = omega (arith, ints, mul-neg S out) in
    cut_off (pos 280 *ℤ m) (pos 280 *ℤ (pos 50 *ℤ rise)) (limit S top base w +ℤ S *ℤ neg_ℤ (pos 20 *ℤ w)) n a
    (AtMostRoot_less ((S *ℤ out +ℤ pos 280 *ℤ m) +ℤ S *ℤ neg_ℤ out) (pos 280 *ℤ m) (limit S top base w +ℤ S *ℤ neg_ℤ (pos 20 *ℤ w)) n left both)
    (omega (arith, ints, limit_is S top base w, mul-neg S (pos 20 *ℤ w), factored S (pos 20) w, slope_most S (top -ℤ base) rise p q h k))

pub beside_aside : (s out m w top base rise : ℤ) (n : ℕ) → pos 0 <ℤ s → pos 0 <ℤ m → (top -ℤ base) ≤ℤ rise → AboveRoot (s *ℤ out) (s *ℤ (pos 20 *ℤ w +ℤ pos 280 *ℤ rise)) n →
    BelowRoot (s *ℤ out +ℤ pos 280 *ℤ m) (limit s top base w) n → ⊥
beside_aside s out m w top base rise n p q h a b =
    let far = pos 20 *ℤ w +ℤ pos 280 *ℤ rise in
    let near = pos 20 *ℤ w +ℤ pos 280 *ℤ (top -ℤ base) in
    let less : near ≤ℤ far = omega (arith, ints, h) in
    let is : limit s top base w ≡ s *ℤ near = omega (arith, ints, limit_is s top base w, mul-add s (pos 20 *ℤ w) (pos 280 *ℤ (top -ℤ base)), factored s (pos 20) w, factored s (pos 280) (top -ℤ base)) in
    cut_off (s *ℤ out) (s *ℤ far) (limit s top base w) n a
    (AtMostRoot_less (s *ℤ out +ℤ pos 280 *ℤ m) (s *ℤ out) (limit s top base w) n (omega (arith, ints, q)) (BelowRoot-AtMostRoot (s *ℤ out +ℤ pos 280 *ℤ m) (limit s top base w) n b))
    (omega (arith, ints, is, mul-le_left s near far p less))
