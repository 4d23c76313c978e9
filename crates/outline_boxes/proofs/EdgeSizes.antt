-- Sizes of what corners on both sides of a line reach, over plain numbers.
use Rattle.std.proofs.Common.{◌≡◌, ◌⊎◌, inl, inr, ℕ, suc, ℤ, pos, negsuc, ◌+◌, ◌*◌, ◌^◌, ◌<◌, ◌≤◌, ◌+ℤ◌, ◌-ℤ◌, ◌*ℤ◌, ◌≤ℤ◌, ◌<ℤ◌, neg_ℤ, unsigned_abs, FitsSigned, w64, to_z-of_z, arith, ap}
use Rattle.std.proofs.lemmas.Int.{ints}
use Rattle.grid_exact.specs.Root.{AboveRoot, AtMostRoot}
use Rattle.grid_exact.specs.Level.{IsCoordinate}
use Rattle.grid_exact.specs.Lines.{IsSquare}
use Rattle.grid_exact.proofs.IntLaws.{abs_neg, mul-neg, product_up}
use Rattle.grid_exact.proofs.RootOrder.{AtMostRoot_less, AtMostRoot_more}
use Rattle.grid_exact.proofs.RootSums.{AtMostRoot_add, AtMostRoot-scale, at_zero, in_np, in_pp, le_from_squares}
use Rattle.grid_exact.proofs.RootTables.{AboveRoot-not}
use Rattle.grid_exact.proofs.Sizes.{abs_add_le, abs_mul_le}
use Rattle.outline_boxes.specs.declared.edges.Edges.{Edges}
use Rattle.outline_boxes.specs.Edges.{IsEdges}
use Rattle.outline_boxes.specs.Reaches.{IsPast}

-- a part t of a vector of square length n is at most its length
part_up : (k : ℕ) (t : ℤ) (n : ℕ) → unsigned_abs t * unsigned_abs t ≤ n → AtMostRoot (pos k *ℤ t) (pos k) n
part_up k (pos a) n h = let e : pos k *ℤ pos 1 ≡ pos k = omega (arith, ints) in rw e at (AtMostRoot-scale k (pos a) (pos 1) n (in_pp a 1 n (omega arith)))
part_up k (negsuc a) n h = let e : pos k *ℤ pos 1 ≡ pos k = omega (arith, ints) in rw e at (AtMostRoot-scale k (negsuc a) (pos 1) n (in_np (suc a) 1 n))

-- and so is the farther of two corners, k ahead and h to a side
part_far : (k h a : ℕ) (t : ℤ) (n : ℕ) → unsigned_abs t * unsigned_abs t + a * a ≤ n → AtMostRoot (pos k *ℤ t +ℤ pos h *ℤ pos a) (pos (k + h)) n
part_far k h a t n e = AtMostRoot_add (pos k *ℤ t) (pos k) (pos h *ℤ pos a) (pos h) n (part_up k t n (omega (arith, e))) (part_up h (pos a) n (omega (arith, e)))

part_back : (k h a : ℕ) (t : ℤ) (n : ℕ) → unsigned_abs t * unsigned_abs t + a * a ≤ n → AtMostRoot (neg_ℤ (pos k *ℤ t +ℤ pos h *ℤ pos a)) (pos (k + h)) n
part_back k h a t n e =
    let b : unsigned_abs (neg_ℤ t) * unsigned_abs (neg_ℤ t) ≤ n = rw abs_neg (omega (arith, e)) in
    let m : AtMostRoot (pos k *ℤ neg_ℤ t) (pos k) n = part_up k (neg_ℤ t) n b in
    let l : neg_ℤ (pos k *ℤ t +ℤ pos h *ℤ pos a) ≤ℤ (pos k *ℤ neg_ℤ t) = omega (arith, ints, mul-neg (pos k) t) in
    AtMostRoot_less (pos k *ℤ neg_ℤ t) (neg_ℤ (pos k *ℤ t +ℤ pos h *ℤ pos a)) (pos (k + h)) n l (AtMostRoot_more (pos k *ℤ neg_ℤ t) (pos k) (pos (k + h)) n (omega (arith, ints)) m)

part_above : (c : ℤ) (s m n : ℕ) → 0 < n → s < m → AtMostRoot (neg_ℤ c) (pos s) n → AboveRoot c (neg_ℤ (pos m)) n
part_above c s m n p l h = (AboveRoot-not c (neg_ℤ (pos m)) n).1 (λ r.
    let t = AtMostRoot_add c (neg_ℤ (pos m)) (neg_ℤ c) (pos s) n r h in
    let e : c +ℤ neg_ℤ c ≡ pos 0 = omega (arith, ints) in
    let q : AtMostRoot (pos 0) (neg_ℤ (pos m) +ℤ pos s) n = rw e at t in
    let z = at_zero (neg_ℤ (pos m) +ℤ pos s) n p q in
    omega (arith, ints, z, l))

pub vector_part : (t a n : ℕ) → t * t + a * a ≤ n → n ≤ 2 ^ 37 → t ≤ 2 ^ 19
vector_part t a n h k = le_from_squares t (2 ^ 19) (omega (arith, h, k))

part_size : (k h a : ℕ) (t : ℤ) → k + h ≤ 2 ^ 40 → unsigned_abs t ≤ 2 ^ 19 → a ≤ 2 ^ 19 → unsigned_abs (pos k *ℤ t +ℤ pos h *ℤ pos a) ≤ 2 ^ 61
part_size k h a t s u v =
    omega (arith, abs_add_le (pos k *ℤ t) (pos h *ℤ pos a), abs_mul_le (pos k) t (2 ^ 40) (2 ^ 19) (omega (arith, s)) u, abs_mul_le (pos h) (pos a) (2 ^ 40) (2 ^ 19) (omega (arith, s)) v)

corner_fits : (scale k h a : ℕ) (t : ℤ) (n : ℕ) → 0 < scale → scale ≤ 2 ^ 20 → k + h ≤ scale * 2 ^ 20 → IsSquare n → unsigned_abs t * unsigned_abs t + a * a ≤ n → IsCoordinate (pos k *ℤ t +ℤ pos h *ℤ pos a) (pos scale) n
corner_fits scale k h a t n s1 s2 r q e =
    let big : k + h < scale * 2 ^ 21 = omega (arith, r, s1) in
    let tot : k + h ≤ 2 ^ 40 = omega (arith, r, s2) in
    record {
      rises = omega (arith, ints, s1);
      factor = omega (arith, s2);
      root = q.some;
      root_size = omega (arith, q.size);
      left = omega (arith, part_size k h a t tot (vector_part (unsigned_abs t) a n e q.size) (vector_part a (unsigned_abs t) n (omega (arith, e)) q.size));
      above = part_above (pos k *ℤ t +ℤ pos h *ℤ pos a) (k + h) (scale * 2 ^ 21) n q.some big (part_back k h a t n e);
      within = AtMostRoot_more (pos k *ℤ t +ℤ pos h *ℤ pos a) (pos (k + h)) (pos (scale * 2 ^ 21)) n (omega (arith, ints, big)) (part_far k h a t n e);
    }

pub farthest_fits : (scale ahead near far t : ℤ) (a n : ℕ) (c : ℤ) → IsEdges scale ahead near far n → unsigned_abs t * unsigned_abs t + a * a ≤ n → (c ≡ near *ℤ pos a) ⊎ (c ≡ ahead *ℤ t +ℤ far *ℤ pos a) → IsCoordinate c scale n
farthest_fits (pos scale) (pos ahead) (pos near) (pos far) t a n c e v (inl h) =
    let s1 : 0 < scale = omega (arith, ints, e.scale_least) in
    let s2 : scale ≤ 2 ^ 20 = omega (arith, ints, e.scale_most) in
    let r : 0 + near ≤ scale * 2 ^ 20 = omega (arith, ints, e.reach_most, e.near_most) in
    let z : pos near *ℤ pos a ≡ pos 0 *ℤ t +ℤ pos near *ℤ pos a = omega (arith, ints) in
    rw (h, z) (corner_fits scale 0 near a t n s1 s2 r e.line v)
farthest_fits (pos scale) (pos ahead) (pos near) (pos far) t a n c e v (inr h) =
    let s1 : 0 < scale = omega (arith, ints, e.scale_least) in
    let s2 : scale ≤ 2 ^ 20 = omega (arith, ints, e.scale_most) in
    let r : ahead + far ≤ scale * 2 ^ 20 = omega (arith, ints, e.reach_most) in
    rw h (corner_fits scale ahead far a t n s1 s2 r e.line v)
farthest_fits (negsuc scale) ahead near far t a n c e v h = absurd (omega (arith, ints, e.scale_least))
farthest_fits (pos scale) (negsuc ahead) near far t a n c e v h = absurd (omega (arith, ints, e.ahead_least))
farthest_fits (pos scale) (pos ahead) (negsuc near) far t a n c e v h = absurd (omega (arith, ints, e.near_least))
farthest_fits (pos scale) (pos ahead) (pos near) (negsuc far) t a n c e v h = absurd (omega (arith, ints, e.near_most))

-- products that a corner is made of
pub part_59 : (k t : ℤ) → unsigned_abs k ≤ 2 ^ 40 → unsigned_abs t ≤ 2 ^ 19 → unsigned_abs (k *ℤ t) ≤ 2 ^ 59
part_59 k t h u = abs_mul_le k t (2 ^ 40) (2 ^ 19) h u

pub record AreSmall (scale ahead near far : ℤ) : Type 0 where
  pub scale_fits : FitsSigned w64 scale
  pub ahead_size : unsigned_abs ahead ≤ 2 ^ 40
  pub ahead_fits : FitsSigned w64 ahead
  pub near_size : unsigned_abs near ≤ 2 ^ 40
  pub near_fits : FitsSigned w64 near
  pub far_size : unsigned_abs far ≤ 2 ^ 40
  pub far_fits : FitsSigned w64 far

pub edges_small : (scale ahead near far : ℤ) (n : ℕ) → IsEdges scale ahead near far n → AreSmall scale ahead near far
edges_small scale ahead near far n e = record {
  scale_fits = omega (arith, ints, e);
  ahead_size = omega (arith, ints, e);
  ahead_fits = omega (arith, ints, e);
  near_size = omega (arith, ints, e);
  near_fits = omega (arith, ints, e);
  far_size = omega (arith, ints, e);
  far_fits = omega (arith, ints, e);
}

-- the farther of both corners is at most what is past both
pub past_of : (e : Edges) (toward : ℤ) (across : ℕ) (z p : ℤ) → (p ≡ e.near *ℤ pos across) ⊎ (p ≡ e.ahead *ℤ toward +ℤ e.far *ℤ pos across) → IsPast e toward across z → AtMostRoot p (e.scale *ℤ z) e.square
past_of e toward across z p (inl h) q = rw h q.near_edge
past_of e toward across z p (inr h) q = rw h q.far_edge

-- a length in parts
pub length_least : (scale length : ℤ) → pos 0 <ℤ scale → pos 0 <ℤ length → pos 0 ≤ℤ (scale *ℤ length)
length_least scale length p q = product_up scale length (omega (arith, ints, p)) (omega (arith, ints, q))

pub length_fits : (scale length : ℤ) → pos 0 <ℤ scale → scale ≤ℤ pos 1048576 → pos 0 <ℤ length → length ≤ℤ pos 1048576 → FitsSigned w64 (scale *ℤ length)
length_fits scale length p q r s = omega (arith, ints, abs_mul_le scale length (2 ^ 20) (2 ^ 20) (omega (arith, ints, p, q)) (omega (arith, ints, r, s)))

pub ruleset lengths = (to_z-of_z, length_least, length_fits)
