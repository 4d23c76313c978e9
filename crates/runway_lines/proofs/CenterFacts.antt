-- The points 200 feet past the ends of a runway.
use Rattle.std.proofs.Common.{◌≡◌, inl, inr, ℕ, zero, suc, ◌*◌, ◌<◌, ◌≤◌, ℤ, pos, negsuc, ◌+ℤ◌, ◌-ℤ◌, ◌*ℤ◌, ◌≤ℤ◌, ◌<ℤ◌, neg_ℤ, unsigned_abs, arith, ap, Bool, true, false}
use Rattle.std.proofs.lemmas.Bool.{cases_Bool, cases_lt}
use Rattle.std.proofs.lemmas.Int.{ints, by_lt_z}
use Rattle.grid_exact.specs.Root.{AboveRoot, AtMostRoot}
use Rattle.grid_exact.specs.Excess.{greatest_up_to, is_at_most_root}
use Rattle.grid_exact.proofs.IntLaws.{abs_neg, mul-neg}
use Rattle.grid_exact.proofs.RootOrder.{AtMostRoot_less, AtMostRoot_more, AtMostRoot_not}
use Rattle.grid_exact.proofs.RootSums.{AtMostRoot_add, AtMostRoot-scale, at_zero, in_np, in_pp}
use Rattle.grid_exact.proofs.RootTables.{AboveRoot-not}
use Rattle.runway_lines.specs.Centers.{IsExtended, IsSetback, point_beyond}
use Rattle.grid_exact.proofs.ExcessLemmas.{greatest_up_to-most, greatest_up_to-passes, greatest_up_to-within}
use Rattle.grid_exact.proofs.TestFacts.{at_most_in, at_most_out}

-- ---- a part d of a vector of square length n is at most its length
pub part_most : (d : ℤ) (n : ℕ) → unsigned_abs d * unsigned_abs d ≤ n → AtMostRoot (pos 2000 *ℤ d) (pos 2000) n
part_most (pos a) n h = AtMostRoot-scale 2000 (pos a) (pos 1) n (in_pp a 1 n (omega arith))
part_most (negsuc a) n h = AtMostRoot-scale 2000 (negsuc a) (pos 1) n (in_np (suc a) 1 n)

pub part_least : (d z : ℤ) (n : ℕ) → unsigned_abs d * unsigned_abs d ≤ n → 0 < n → AtMostRoot (pos 2000 *ℤ d) z n → neg_ℤ (pos 2000) ≤ℤ z
part_least d z n h p r =
    let k : unsigned_abs (neg_ℤ d) * unsigned_abs (neg_ℤ d) ≤ n = rw abs_neg h in
    let m : AtMostRoot (pos 2000 *ℤ neg_ℤ d) (pos 2000) n = part_most (neg_ℤ d) n k in
    let s = AtMostRoot_add (pos 2000 *ℤ d) z (pos 2000 *ℤ neg_ℤ d) (pos 2000) n r m in
    let e : pos 2000 *ℤ d +ℤ pos 2000 *ℤ neg_ℤ d ≡ pos 0 = omega (arith, ints, mul-neg (pos 2000) d) in
    let q : AtMostRoot (pos 0) (z +ℤ pos 2000) n = rw e at s in
    omega (arith, ints, at_zero (z +ℤ pos 2000) n p q)

pub part_above : (d : ℤ) (n : ℕ) → unsigned_abs d * unsigned_abs d ≤ n → 0 < n → AboveRoot (pos 2000 *ℤ d) (negsuc 2097151) n
part_above d n h p = (AboveRoot-not (pos 2000 *ℤ d) (negsuc 2097151) n).1 (λ r. let l = part_least d (negsuc 2097151) n h p r in omega (arith, ints, l))

pub part_within : (d : ℤ) (n : ℕ) → unsigned_abs d * unsigned_abs d ≤ n → AtMostRoot (pos 2000 *ℤ d) (pos 2097152) n
part_within d n h = AtMostRoot_more (pos 2000 *ℤ d) (pos 2000) (pos 2097152) n (omega (arith, ints)) (part_most d n h)

-- ---- the search finds the point
pub extended_is : (here there : ℤ) (n : ℕ) → unsigned_abs (there -ℤ here) * unsigned_abs (there -ℤ here) ≤ n → 0 < n → IsExtended here there n (point_beyond here there n)
unfolding point_beyond
extended_is here there n h p =
    let c = pos 2000 *ℤ (there -ℤ here) in
    let t : ℕ → Bool = λ e. is_at_most_root c (pos 2000 -ℤ pos e) n in
    let g : ℕ = greatest_up_to t 4000 in
    let a : ℤ = here -ℤ pos 2000 +ℤ pos g in
    let back : here -ℤ a ≡ pos 2000 -ℤ pos g = omega (arith, ints) in
    let start : t 0 ≡ true = at_most_out c (pos 2000) n (part_most (there -ℤ here) n h) in
    let found : AtMostRoot c (pos 2000 -ℤ pos g) n = at_most_in c (pos 2000 -ℤ pos g) n (greatest_up_to-passes t 4000 start) in
    record {
      reaches = rw back found;
      greatest = λ b r.
          let low : neg_ℤ (pos 2000) ≤ℤ (here -ℤ b) = part_least (there -ℤ here) (here -ℤ b) n h p r in
          by_lt_z b (here -ℤ pos 2000)
          (λ l. omega (arith, ints, l))
          (λ l. let e : ℕ = unsigned_abs (b -ℤ (here -ℤ pos 2000)) in
          let s : here -ℤ b ≡ pos 2000 -ℤ pos e = omega (arith, ints, l) in
          let q : AtMostRoot c (pos 2000 -ℤ pos e) n = rw s at r in
          let k : e ≤ g = greatest_up_to-most t 4000 e (omega (arith, ints, l, low)) (at_most_out c (pos 2000 -ℤ pos e) n q) in
          omega (arith, ints, k, s));
    }

pub extended_only : (here there : ℤ) (n : ℕ) (a b : ℤ) → IsExtended here there n a → IsExtended here there n b → a ≡ b
extended_only here there n a b h k = omega (arith, ints, h.greatest b k.reaches, k.greatest a h.reaches)

pub extended_back : (here there : ℤ) (n : ℕ) (w : ℤ) → IsSetback (there -ℤ here) n w → IsExtended here there n (here -ℤ w)
extended_back here there n w s =
    let e : here -ℤ (here -ℤ w) ≡ w = omega (arith, ints) in
    record {
      reaches = rw e s.reaches;
      greatest = λ b r. omega (arith, ints, s.least (here -ℤ b) r);
    }

pub extended_near : (here there : ℤ) (n : ℕ) → ((here -ℤ pos 2000) ≤ℤ point_beyond here there n) × (point_beyond here there n ≤ℤ (here +ℤ pos 2000))
unfolding point_beyond
extended_near here there n =
    let t : ℕ → Bool = λ e. is_at_most_root (pos 2000 *ℤ (there -ℤ here)) (pos 2000 -ℤ pos e) n in
    let w = greatest_up_to-within t 4000 in
    (omega (arith, ints), omega (arith, ints, w))

-- ---- it lies on the far side of the end
pub extended_below : (here there : ℤ) (n : ℕ) (a : ℤ) → here <ℤ there → IsExtended here there n a → a ≤ℤ here
extended_below here there n a l h =
    by_lt_z here a
    (λ k. absurd (AtMostRoot_not (pos 2000 *ℤ (there -ℤ here)) (here -ℤ a) n (omega (arith, ints, l)) (omega (arith, ints, k)) h.reaches))
    (λ k. k)

pub extended_above : (here there : ℤ) (n : ℕ) (a : ℤ) → there ≤ℤ here → IsExtended here there n a → here ≤ℤ a
extended_above here there n a l h =
    let e : here -ℤ here ≡ pos 0 = omega (arith, ints) in
    let z : AtMostRoot (pos 2000 *ℤ (there -ℤ here)) (pos 0) n = AtMostRoot_less (pos 0) (pos 2000 *ℤ (there -ℤ here)) (pos 0) n (omega (arith, ints, l)) (in_pp 0 0 n (omega arith)) in
    h.greatest here (rw e z)
