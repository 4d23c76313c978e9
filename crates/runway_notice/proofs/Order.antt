-- The orders of fractions and of runways.
use Rattle.std.proofs.Common.{◌≡◌, ◌≢◌, ◌<◌, ◌*◌, ℕ, ℤ, List, arith, refl, sym, ◌∙◌, ap, true, false}
use Rattle.std.specs.Cmp.{IsTotalOrder, nat_cmp_is, ranks}
use Rattle.std.specs.Ordering.{int_cmp, nat_cmp, is_gt, is_lt, MatchOrdering, on, ordering_reverse, ordering_then, then_cmp}
use Rattle.std.specs.declared.cmp.Ordering.{Ordering}
use Rattle.std.specs.declared.cmp.Ordering.TheVariants.{Less, Equal, Greater}
use Rattle.std.proofs.lemmas.Cmp.{int_cmp_total, nat_cmp_total, nat_list_cmp_total, on_total, then_total, tied_itself, upto}
use Rattle.std.proofs.Math.Nat.{lt_of_mul-lt-mul_right, mul-lt-mul_of_pos_right}
use Rattle.grid_exact.specs.declared.point.Point.{Point}
use Rattle.airfields.specs.Names.{name_cmp}
use Rattle.airfields.specs.Runways.{IsProper}
use Rattle.airfields.specs.declared.runway.Runway.{Runway}
use Rattle.runway_notice.specs.Distances.{Fraction, fraction_cmp}
use Rattle.runway_notice.specs.Nearest.{distance_of, elevation_of, nearness_cmp, taking_cmp}
use Rattle.runway_notice.proofs.DistanceFacts.{profile_some}

-- ---- fractions
scaled_rank : (o : Ordering) (m n k : ℕ) → 0 < k → MatchOrdering o (m < n) (m ≡ n) (n < m) → MatchOrdering o (m * k < n * k) (m * k ≡ n * k) (n * k < m * k)
scaled_rank Less m n k p h = mul-lt-mul_of_pos_right h p
scaled_rank Equal m n k p h = ap (λ x. x * k) h
scaled_rank Greater m n k p h = mul-lt-mul_of_pos_right h p

-- a common factor
scaled : (m n k : ℕ) → 0 < k → nat_cmp m n ≡ nat_cmp (m * k) (n * k)
scaled m n k p = nat_cmp_is (m * k) (n * k) (nat_cmp m n) (scaled_rank (nat_cmp m n) m n k p (ranks m n))

nat_cmp_equal : (m n : ℕ) → nat_cmp m n ≡ Equal → m ≡ n
nat_cmp_equal m n h = let r : MatchOrdering Equal (m < n) (m ≡ n) (n < m) = rw h at (ranks m n) in r

less_in : (m n : ℕ) → nat_cmp m n ≡ Less → m < n
less_in m n h = let r : MatchOrdering Less (m < n) (m ≡ n) (n < m) = rw h at (ranks m n) in r

less_of : (m n : ℕ) → m < n → nat_cmp m n ≡ Less
less_of m n h = sym (nat_cmp_is m n Less h)

-- a fraction of a whole that is not 0
pub record Proper : Type 0 where
  pub value : Fraction
  pub some : 0 < value.whole

abbrev proper_cmp : Proper → Proper → Ordering
proper_cmp a b = fraction_cmp a.value b.value

-- a against d and b against d, brought to one whole
at_whole : (m v n w k u : ℕ) → 0 < v → 0 < w → m * w ≡ n * v → nat_cmp (m * u) (k * v) ≡ nat_cmp (n * u) (k * w)
at_whole m v n w k u p q h =
    let left : m * u * w ≡ n * u * v = omega (arith, ap (λ z. z * u) h) in
    let right : k * v * w ≡ k * w * v = omega arith in
    scaled (m * u) (k * v) w q ∙ (rw (left, right) refl ∙ sym (scaled (n * u) (k * w) v p))

proper_congr : (a b d : Proper) → fraction_cmp a.value b.value ≡ Equal → fraction_cmp a.value d.value ≡ fraction_cmp b.value d.value
proper_congr a b d h =
    at_whole a.value.part a.value.whole b.value.part b.value.whole d.value.part d.value.whole a.some b.some (nat_cmp_equal (a.value.part * b.value.whole) (b.value.part * a.value.whole) h)

chained : (m v n w k u : ℕ) → 0 < v → 0 < u → m * w < n * v → n * u < k * w → m * u < k * v
chained m v n w k u p r h l =
    let first : m * w * u < n * v * u = mul-lt-mul_of_pos_right h r in
    let second : n * u * v < k * w * v = mul-lt-mul_of_pos_right l p in
    lt_of_mul-lt-mul_right w (omega (arith, first, second))

proper_trans : (a b d : Proper) → fraction_cmp a.value b.value ≡ Less → fraction_cmp b.value d.value ≡ Less → fraction_cmp a.value d.value ≡ Less
proper_trans a b d h k =
    less_of (a.value.part * d.value.whole) (d.value.part * a.value.whole)
    (chained a.value.part a.value.whole b.value.part b.value.whole d.value.part d.value.whole a.some d.some
    (less_in (a.value.part * b.value.whole) (b.value.part * a.value.whole) h) (less_in (b.value.part * d.value.whole) (d.value.part * b.value.whole) k))

proper_total : IsTotalOrder proper_cmp
proper_total = record {
  antisymm = λ a b. nat_cmp_total.antisymm (a.value.part * b.value.whole) (b.value.part * a.value.whole);
  trans = proper_trans;
  congr = proper_congr;
}

-- ---- what a runway is taken by
pub record Key : Type 0 where
  pub distance : Proper
  pub elevation : ℤ
  pub name : List ℕ

key : (x : Point) (r : Runway) → IsProper r → Key
key x r p = record {
  distance = record { value = distance_of x r; some = profile_some r p.within_length };
  elevation = elevation_of x r;
  name = r.name;
}

abbrev nearness : Key → Key → Ordering
nearness = then_cmp (on (λ (k : Key). k.distance) proper_cmp) (on (λ (k : Key). k.elevation) int_cmp)

abbrev taking : Key → Key → Ordering
taking = then_cmp nearness (on (λ (k : Key). k.name) name_cmp)

nearness_total : IsTotalOrder nearness
nearness_total = then_total (on_total (λ (k : Key). k.distance) proper_total) (on_total (λ (k : Key). k.elevation) int_cmp_total)

taking_total : IsTotalOrder taking
taking_total = then_total nearness_total (on_total (λ (k : Key). k.name) nat_list_cmp_total)

-- ---- the orders of runways
not_gt : (o : Ordering) → o ≢ Greater → is_gt o ≡ false
not_gt Less h = refl
not_gt Equal h = refl
not_gt Greater h = absurd (h refl)

gt_not : (o : Ordering) → is_gt o ≡ false → o ≢ Greater
gt_not Less h e = cc
gt_not Equal h e = cc
gt_not Greater h e = cc

pub taking_self : (x : Point) (r : Runway) → IsProper r → taking_cmp x r r ≢ Greater
unfolding key
taking_self x r p = let e : taking_cmp x r r ≡ Equal = tied_itself taking_total (key x r p) in gt_not _ (rw e refl)

pub taking_trans : (x : Point) (r s t : Runway) → IsProper r → IsProper s → IsProper t → taking_cmp x r s ≢ Greater → taking_cmp x s t ≢ Greater → taking_cmp x r t ≢ Greater
unfolding key
taking_trans x r s t p q u h k = gt_not (taking_cmp x r t) (upto taking_total (key x r p) (key x s q) (key x t u) (not_gt (taking_cmp x r s) h) (not_gt (taking_cmp x s t) k))

pub taking_back : (x : Point) (r s : Runway) → IsProper r → IsProper s → taking_cmp x r s ≡ ordering_reverse (taking_cmp x s r)
unfolding key
taking_back x r s p q = taking_total.antisymm (key x r p) (key x s q)

taken_less : (o n : Ordering) → is_lt o ≡ true → ordering_then o n ≢ Greater
taken_less Less n h e = cc
taken_less Equal n h e = cc
taken_less Greater n h e = cc

-- a nearer one is taken before
pub nearer_first : (x : Point) (r s : Runway) → is_lt (nearness_cmp x r s) ≡ true → taking_cmp x r s ≢ Greater
nearer_first x r s h = taken_less (nearness_cmp x r s) (name_cmp r.name s.name) h

taken_back : (o n : Ordering) → is_lt o ≡ false → n ≡ Less → ordering_then (ordering_reverse o) n ≢ Greater
taken_back Less n h k e = cc
taken_back Equal n h k e = cc
taken_back Greater n h k e = cc

-- of two of which the second is not nearer, the one with the smaller name
pub named_first : (x : Point) (r s : Runway) → IsProper r → IsProper s → is_lt (nearness_cmp x s r) ≡ false → name_cmp r.name s.name ≡ Less → taking_cmp x r s ≢ Greater
unfolding key
named_first x r s p q h k =
    let e : nearness_cmp x r s ≡ ordering_reverse (nearness_cmp x s r) = nearness_total.antisymm (key x r p) (key x s q) in
    rw e (taken_back (nearness_cmp x s r) (name_cmp r.name s.name) h k)
