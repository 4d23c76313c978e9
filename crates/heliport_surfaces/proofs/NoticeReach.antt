-- How far a point that is at most d from a rectangle lies in the direction of a coordinate, over plain numbers.
use Rattle.std.proofs.Common.{◌≡◌, inl, inr, ℕ, suc, ◌+◌, ◌-◌, ◌*◌, ◌<◌, ◌≤◌, ℤ, pos, negsuc, ◌+ℤ◌, ◌-ℤ◌, ◌*ℤ◌, ◌≤ℤ◌, neg_ℤ, unsigned_abs, int_lt, false, arith, ap, refl, subst}
use Rattle.std.proofs.Math.Nat.{mul-le-mul, mul-pos}
use Rattle.std.proofs.lemmas.Bool.{cases_Bool, cases_lt}
use Rattle.std.proofs.lemmas.Int.{ints, unsigned_abs-mul}
use Rattle.grid_exact.specs.Root.{AtMostRoot}
use Rattle.grid_exact.proofs.IntLaws.{mul-sub, sub-mul}
use Rattle.grid_exact.proofs.RootOrder.{AtMostRoot_less}
use Rattle.grid_exact.proofs.RootSums.{AtMostRoot_add, AtMostRoot-scale, in_nn, in_np, in_pp, le_from_squares, out_pp}
use Rattle.grid_exact.proofs.TestFacts.{at_most_in}
use Rattle.heliport_surfaces.specs.Notices.{Gap, IsWithin, beyond_ends, is_in_line}

-- 4*s*t <= (s + t)^2
four_products : (s t : ℕ) → 4 * (s * t) ≤ (s + t) * (s + t)
four_products s t =
    elim (cases_lt s t) [
      | inl l ↦ (let k : ℕ = t - s in let e : t ≡ s + k = omega arith in rw e (omega arith))
      | inr l ↦ (let k : ℕ = s - t in let e : s ≡ t + k = omega arith in rw e (omega arith))
    ]

-- E*E > g, where (E*E + 2*E*F + g)^2 is at most 4*(E + F)^2*g
not_above : (E F g t : ℕ) → E * E ≡ g + t → 0 < t → (E * E + 2 * (E * F) + g) * (E * E + 2 * (E * F) + g) ≤ 4 * ((E + F) * (E + F) * g) → ⊥
not_above E F g t e p h =
    omega (arith, h, mul-pos p p, ap (λ z. z * (E * E)) e, ap (λ z. z * (E * F)) e, ap (λ z. z * g) e, ap (λ z. z * (F * F)) e, ap (λ z. z * t) e)

-- so where X*X + g - F*F is at most 2*X times the root of g = w*w*n, X - F is at most that root
root_case : (E F w n : ℕ) → AtMostRoot (pos ((E + F) * (E + F) + w * w * n) -ℤ pos (F * F)) (pos (2 * (w * (E + F)))) n → AtMostRoot (pos E) (pos w) n
root_case E F w n h =
    let g : ℕ = w * w * n in
    elim (cases_lt g (E * E)) [
      | inl above ↦ absurd (
          let e : pos ((E + F) * (E + F) + w * w * n) -ℤ pos (F * F) ≡ pos (E * E + 2 * (E * F) + w * w * n) = omega (arith, ints) in
          let s : (E * E + 2 * (E * F) + w * w * n) * (E * E + 2 * (E * F) + w * w * n) ≤ 2 * (w * (E + F)) * (2 * (w * (E + F))) * n = out_pp (E * E + 2 * (E * F) + w * w * n) (2 * (w * (E + F))) n (rw e at h) in
          let m : 2 * (w * (E + F)) * (2 * (w * (E + F))) * n ≡ 4 * ((E + F) * (E + F) * (w * w * n)) = omega arith in
          not_above E F (w * w * n) (E * E - w * w * n) (omega (arith, above)) (omega (arith, above)) (rw m at s))
      | inr below ↦ in_pp E w n (omega (arith, below))
    ]

square_root_of : (X F w n : ℕ) → AtMostRoot (pos (X * X + w * w * n) -ℤ pos (F * F)) (pos (2 * (w * X))) n → AtMostRoot (pos X -ℤ pos F) (pos w) n
square_root_of X F w n h =
    elim (cases_lt F X) [
      | inl l ↦ (
          let eX : X ≡ X - F + F = omega (arith, l) in
          let P : ℕ → Type 0 = λ z. AtMostRoot (pos (z * z + w * w * n) -ℤ pos (F * F)) (pos (2 * (w * z))) n in
          let e : pos X -ℤ pos F ≡ pos (X - F) = omega (arith, ints, l) in
          rw e (root_case (X - F) F w n (subst P eX h)))
      | inr l ↦ AtMostRoot_less (pos 0) (pos X -ℤ pos F) (pos w) n (omega (arith, ints, l)) (in_pp 0 w n (omega arith))
    ]

-- ---- past a corner: p beyond the ends and q to a side of an axis of the square N = a*a + b*b, w the width
corner_product : (w a N : ℕ) (Y : ℤ) → AtMostRoot (neg_ℤ (pos (unsigned_abs Y * unsigned_abs Y + w * a * (w * a) * N))) (pos (2 * (w * a)) *ℤ Y) N
corner_product w a N (pos y) = in_np (y * y + w * a * (w * a) * N) (2 * (w * a) * y) N
corner_product w a N (negsuc y) =
    let e : pos (2 * (w * a)) *ℤ negsuc y ≡ neg_ℤ (pos (2 * (w * a) * suc y)) = omega (arith, ints) in
    rw e (in_nn (suc y * suc y + w * a * (w * a) * N) (2 * (w * a) * suc y) N (omega (arith, four_products (suc y * suc y) (w * a * (w * a) * N))))

-- (p*p + q*q) * (a*a + b*b) = (p*a + q*b)^2 + (p*b - q*a)^2, each factor of it doubled
squares_of : (u v y : ℕ) → (u ≡ v + y) → y * y + 2 * (u * v) ≡ u * u + v * v
squares_of u v y e = rw e (omega arith)

two_squares : (p q a b : ℕ) (Y : ℤ) → Y ≡ pos (2 * (p * b)) -ℤ pos (2 * (q * a)) →
    4 * (p * p + q * q) * (a * a + b * b) ≡ unsigned_abs Y * unsigned_abs Y + (2 * (p * a) + 2 * (q * b)) * (2 * (p * a) + 2 * (q * b))
two_squares p q a b Y e =
    elim (cases_lt (p * b) (q * a)) [
      | inl l ↦ (let s : 2 * (q * a) ≡ 2 * (p * b) + unsigned_abs Y = omega (arith, ints, e, l) in omega (arith, squares_of (2 * (q * a)) (2 * (p * b)) (unsigned_abs Y) s))
      | inr l ↦ (let s : 2 * (p * b) ≡ 2 * (q * a) + unsigned_abs Y = omega (arith, ints, e, l) in omega (arith, squares_of (2 * (p * b)) (2 * (q * a)) (unsigned_abs Y) s))
    ]

-- the premise times N, and the product of the corner, together
corner_sum : (p q a b w d N : ℕ) (Y : ℤ) → N ≡ a * a + b * b → Y ≡ pos (2 * (p * b)) -ℤ pos (2 * (q * a)) →
    AtMostRoot (pos (4 * (p * p) + 4 * (q * q) + w * w * N) -ℤ pos (4 * (d * d) * N)) (pos (4 * q * w)) N →
    AtMostRoot (pos ((2 * (p * a) + 2 * (q * b)) * (2 * (p * a) + 2 * (q * b)) + w * b * (w * b) * N) -ℤ pos (2 * (d * N) * (2 * (d * N)))) (pos (2 * (w * b * (2 * (p * a) + 2 * (q * b))))) N
corner_sum p q a b w d N Y eN eY h =
    let U : ℕ = 4 * (p * p) + 4 * (q * q) + w * w * N in
    let V : ℕ = 4 * (d * d) * N in
    let S : ℕ = unsigned_abs Y * unsigned_abs Y + w * a * (w * a) * N in
    let t = AtMostRoot_add (pos N *ℤ (pos U -ℤ pos V)) (pos N *ℤ pos (4 * q * w)) (neg_ℤ (pos S)) (pos (2 * (w * a)) *ℤ Y) N (AtMostRoot-scale N (pos U -ℤ pos V) (pos (4 * q * w)) N h) (corner_product w a N Y) in
    let X : ℕ = 2 * (p * a) + 2 * (q * b) in
    let l : N * U ≡ S + (X * X + w * b * (w * b) * N) = total p q a b w N Y eN (two_squares p q a b Y eY) in
    let e1 : pos N *ℤ (pos U -ℤ pos V) +ℤ neg_ℤ (pos S) ≡ pos (X * X + w * b * (w * b) * N) -ℤ pos (2 * (d * N) * (2 * (d * N))) = left_side N U V S (X * X + w * b * (w * b) * N) (2 * (d * N) * (2 * (d * N))) l (omega arith) in
    let e2 : pos N *ℤ pos (4 * q * w) +ℤ pos (2 * (w * a)) *ℤ Y ≡ pos (2 * (w * b * X)) = right_side p q a b w N Y eN eY in
    rw (e1, e2) at t
  where
    total : (p q a b w N : ℕ) (Y : ℤ) → N ≡ a * a + b * b → 4 * (p * p + q * q) * (a * a + b * b) ≡ unsigned_abs Y * unsigned_abs Y + (2 * (p * a) + 2 * (q * b)) * (2 * (p * a) + 2 * (q * b)) →
        N * (4 * (p * p) + 4 * (q * q) + w * w * N) ≡ unsigned_abs Y * unsigned_abs Y + w * a * (w * a) * N + ((2 * (p * a) + 2 * (q * b)) * (2 * (p * a) + 2 * (q * b)) + w * b * (w * b) * N)
    total p q a b w N Y e h = rw e (omega (arith, h))

    left_side : (N U V S G K : ℕ) → N * U ≡ S + G → N * V ≡ K → pos N *ℤ (pos U -ℤ pos V) +ℤ neg_ℤ (pos S) ≡ pos G -ℤ pos K
    left_side N U V S G K h k = omega (arith, ints, mul-sub (pos N) (pos U) (pos V), h, k)

    right_side : (p q a b w N : ℕ) (Y : ℤ) → N ≡ a * a + b * b → Y ≡ pos (2 * (p * b)) -ℤ pos (2 * (q * a)) → pos N *ℤ pos (4 * q * w) +ℤ pos (2 * (w * a)) *ℤ Y ≡ pos (2 * (w * b * (2 * (p * a) + 2 * (q * b))))
    right_side p q a b w N Y e s = rw (e, s) (omega (arith, ints, mul-sub (pos (2 * (w * a))) (pos (2 * (p * b))) (pos (2 * (q * a)))))

corner_reach : (p q a b w d N : ℕ) → N ≡ a * a + b * b → AtMostRoot (pos (4 * (p * p) + 4 * (q * q) + w * w * N) -ℤ pos (4 * (d * d) * N)) (pos (4 * q * w)) N →
    AtMostRoot (pos (2 * (p * a) + 2 * (q * b)) -ℤ pos (2 * (d * N))) (pos (w * b)) N
corner_reach p q a b w d N e h = square_root_of (2 * (p * a) + 2 * (q * b)) (2 * (d * N)) (w * b) N (corner_sum p q a b w d N (pos (2 * (p * b)) -ℤ pos (2 * (q * a))) e refl h)

-- ---- between the sides
line_reach : (p q a b w d N : ℕ) → N ≡ a * a + b * b → AtMostRoot (pos (2 * q)) (pos w) N → AtMostRoot (pos p) (pos d) N → AtMostRoot (pos (2 * (p * a) + 2 * (q * b)) -ℤ pos (2 * (d * N))) (pos (w * b)) N
line_reach p q a b w d N e h k =
    let pp : p * p ≤ d * d * N = out_pp p d N k in
    let aa : a * a ≤ N = omega (arith, e) in
    let m : p * a ≤ d * N = le_from_squares (p * a) (d * N) (omega (arith, mul-le-mul pp aa)) in
    let s : AtMostRoot (pos b *ℤ pos (2 * q)) (pos b *ℤ pos w) N = AtMostRoot-scale b (pos (2 * q)) (pos w) N h in
    let f : pos b *ℤ pos w ≡ pos (w * b) = omega (arith, ints) in
    AtMostRoot_less (pos b *ℤ pos (2 * q)) (pos (2 * (p * a) + 2 * (q * b)) -ℤ pos (2 * (d * N))) (pos (w * b)) N (omega (arith, ints, m)) (rw f at s)

pub gap_reach : (g : Gap) (a b d : ℕ) → g.square ≡ a * a + b * b → IsWithin g d → AtMostRoot (pos 2 *ℤ (pos (g.beyond * a + g.aside * b) -ℤ pos (d * g.square))) (pos g.width *ℤ pos b) g.square
gap_reach g a b d e h =
    let s : pos 2 *ℤ (pos (g.beyond * a + g.aside * b) -ℤ pos (d * g.square)) ≡ pos (2 * (g.beyond * a) + 2 * (g.aside * b)) -ℤ pos (2 * (d * g.square)) =
    omega (arith, ints, mul-sub (pos 2) (pos (g.beyond * a + g.aside * b)) (pos (d * g.square))) in
    rw s
    (elim (cases_Bool (is_in_line g)) [
      | inl t ↦ line_reach g.beyond g.aside a b g.width d g.square e (at_most_in (pos (2 * g.aside)) (pos g.width) g.square t) (rw t at h)
      | inr f ↦ corner_reach g.beyond g.aside a b g.width d g.square e (rw f at h)
    ])

-- ---- how far along the axis its nearest point lies
pub record Nearest (m : ℤ) (n : ℕ) (f : ℤ) : Type 0 where
  pub at : ℤ
  pub past_start : pos 0 ≤ℤ at
  pub before_end : at ≤ℤ pos n
  pub reach : (m *ℤ f) ≤ℤ (at *ℤ f +ℤ pos (beyond_ends m n * unsigned_abs f))

pub nearest : (m : ℤ) (n : ℕ) (f : ℤ) → Nearest m n f
nearest m n f =
    elim (cases_Bool (int_lt m (pos 0))) as (λ _. Nearest m n f) [
      | inl t ↦ record {
        at = pos 0;
        past_start = omega (arith, ints);
        before_end = omega (arith, ints);
        reach = rw t (omega (arith, ints, unsigned_abs-mul m f));
      }
      | inr t ↦ elim (cases_Bool (int_lt (pos n) m)) as (λ _. Nearest m n f) [
        | inl u ↦ record {
          at = pos n;
          past_start = omega (arith, ints);
          before_end = omega (arith, ints);
          reach = rw (t, u) (omega (arith, ints, unsigned_abs-mul (m -ℤ pos n) f, sub-mul m (pos n) f));
        }
        | inr u ↦ record {
          at = m;
          past_start = le_of_not_lt m (pos 0) t;
          before_end = le_of_not_lt (pos n) m u;
          reach = rw (t, u) (omega (arith, ints));
        }
      ]
    ]
  where
    le_of_not_lt : (a b : ℤ) → int_lt a b ≡ false → b ≤ℤ a
    le_of_not_lt a b h = omega (arith, ints, h)
