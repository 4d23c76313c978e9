-- A point at most d from a rectangle, by whole numbers: near its corner it is as near in both directions.
use Rattle.std.proofs.Common.{◌≡◌, inl, inr, ℕ, ◌+◌, ◌-◌, ◌*◌, ◌<◌, ◌≤◌, ℤ, pos, ◌<ℤ◌, unsigned_abs, true, false, arith, refl}
use Rattle.std.specs.Prelude.{if◌then◌else◌}
use Rattle.std.proofs.Math.Nat.{mul-le-mul, mul-le-mul_right}
use Rattle.std.proofs.lemmas.Bool.{cases_lt}
use Rattle.std.proofs.lemmas.Int.{ints, by_lt_z}
use Rattle.grid_exact.specs.Root.{AtMostRoot, BelowRoot}
use Rattle.grid_exact.proofs.IntLaws.{signed_square_lt}
use Rattle.grid_exact.proofs.RootSums.{le_from_squares, out_pp}
use Rattle.grid_exact.proofs.TestFacts.{at_most_in}
use Rattle.heliport_surfaces.specs.Notices.{Gap, IsClose, IsWithin, IsNearer, corner, is_in_line}
use Rattle.heliport_surfaces.specs.declared.rules.TheConstants.{NOTICE_RANGE}
use Rattle.airfields.specs.declared.limits.TheConstants.{HELIPORT_AXIS_MOST, HELIPORT_WIDTH_MOST}

-- 2*t*v <= t*t + v*v
two_products : (t v : ℕ) → 2 * (t * v) ≤ t * t + v * v
two_products t v =
    elim (cases_lt t v) [
      | inl l ↦ (let k : ℕ = v - t in let e : v ≡ t + k = omega arith in rw e (omega arith))
      | inr l ↦ (let k : ℕ = t - v in let e : t ≡ v + k = omega arith in rw e (omega arith))
    ]

-- of (sqrt(t) - sqrt(v))^2 + p <= y, a = p + t + v - y being at most 2*sqrt(t*v): p <= y
near_ends : (a p t v y : ℕ) → a + y ≡ p + t + v → a * a ≤ 4 * (t * v) → p ≤ y
near_ends a p t v y e h =
    elim (cases_lt y p) [
      | inl l ↦ absurd (let m : t + v + 1 ≤ a = omega arith in omega (arith, mul-le-mul m m, two_products t v))
      | inr l ↦ l
    ]

-- and sqrt(t) <= sqrt(v) + sqrt(y), k being 2*sqrt(v*y)
near_sides : (a p t v y k : ℕ) → a + y ≡ p + t + v → a * a ≤ 4 * (t * v) → k * k ≡ 4 * (v * y) → t ≤ y + k + v
near_sides a p t v y k e h s =
    elim (cases_lt (y + k + v) t) [
      | inl l ↦ absurd (
          let r : ℕ = t - (y + v) in
          let et : t ≡ r + (y + v) = omega arith in
          let more : k + 1 ≤ r = omega arith in
          let m : r + 2 * v ≤ a = omega arith in
          let h' : a * a ≤ 4 * ((r + (y + v)) * v) = rw et at h in
          omega (arith, mul-le-mul m m, mul-le-mul more more))
      | inr l ↦ l
    ]

corner_close : (g : Gap) (d : ℕ) → AtMostRoot (corner g d) (pos (4 * g.aside * g.width)) g.square → IsClose g d
corner_close g d h =
    let p = g.beyond * g.beyond in
    let q = g.aside * g.aside in
    let v = g.width * g.width * g.square in
    let y = 4 * (d * d) * g.square in
    by_lt_z (corner g d) (pos 0)
    (λ l. record { ends = omega (arith, ints); sides = omega (arith, ints) })
    (λ l. let a : ℕ = unsigned_abs (corner g d) in
    let ea : corner g d ≡ pos a = omega (arith, ints) in
    let e : a + y ≡ 4 * p + 4 * q + v = omega (arith, ints) in
    let s : a * a ≤ 4 * g.aside * g.width * (4 * g.aside * g.width) * g.square = out_pp a (4 * g.aside * g.width) g.square (rw ea at h) in
    let m : a * a ≤ 4 * (4 * q * v) = omega arith in
    let end = near_ends a (4 * p) (4 * q) v y e m in
    let side = near_sides a (4 * p) (4 * q) v y (4 * d * g.width * g.square) e m (omega arith) in
    record { ends = omega (arith, end); sides = omega (arith, side) })

in_line_close : (g : Gap) (d : ℕ) → is_in_line g ≡ true → AtMostRoot (pos g.beyond) (pos d) g.square → IsClose g d
in_line_close g d e h =
    let line : 2 * g.aside * (2 * g.aside) ≤ g.width * g.width * g.square = out_pp (2 * g.aside) g.width g.square (at_most_in (pos (2 * g.aside)) (pos g.width) g.square e) in
    record { ends = out_pp g.beyond d g.square h; sides = omega arith }

pub IsWithin-IsClose : (g : Gap) (d : ℕ) → IsWithin g d → IsClose g d
IsWithin-IsClose g d =
    let edge = pos (4 * g.aside * g.width) in
    elim (is_in_line g) as (λ b. is_in_line g ≡ b → AtMostRoot (if b then pos g.beyond else corner g d) (if b then pos d else edge) g.square → IsClose g d) [
      | true ↦ λ e h. in_line_close g d e h
      | false ↦ λ e h. corner_close g d h
    ] refl

-- a number below one that is at most a root is below it
at_most_less : (a b c : ℤ) (n : ℕ) → b <ℤ a → AtMostRoot a c n → BelowRoot b c n
at_most_less a b c n l h = record { below = omega (arith, ints, signed_square_lt b a l) }

squares_less : (d e n : ℕ) → 0 < n → d < e → d * d * n < e * e * n
squares_less d e n p l = let m : d + 1 ≤ e = omega arith in omega (arith, mul-le-mul_right n (mul-le-mul m m))

-- a point within a distance is nearer than every longer one
pub IsWithin_below : (g : Gap) (d e : ℕ) → 0 < g.square → d < e → IsWithin g d → IsNearer g e
IsWithin_below g d e p l =
    let edge = pos (4 * g.aside * g.width) in
    let less = squares_less d e g.square p l in
    elim (is_in_line g) as (λ b. AtMostRoot (if b then pos g.beyond else corner g d) (if b then pos d else edge) g.square → BelowRoot (if b then pos g.beyond else corner g e) (if b then pos e else edge) g.square) [
      | true ↦ λ k. record { below = omega (arith, ints, k.at_most, less) }
      | false ↦ λ k. at_most_less (corner g d) (corner g e) edge g.square (omega (arith, ints, less)) k
    ]

-- how far to a side what is close can be, times the length of the axis
pub close_aside : (g : Gap) → g.square ≤ HELIPORT_AXIS_MOST * HELIPORT_AXIS_MOST → g.width ≤ unsigned_abs HELIPORT_WIDTH_MOST → IsClose g NOTICE_RANGE → g.aside ≤ 525000000
close_aside g h w c =
    let l : 2 * NOTICE_RANGE + g.width ≤ 105000 = omega arith in
    let m : (2 * NOTICE_RANGE + g.width) * (2 * NOTICE_RANGE + g.width) * g.square ≤ 105000 * 105000 * (HELIPORT_AXIS_MOST * HELIPORT_AXIS_MOST) = mul-le-mul (mul-le-mul l l) h in
    le_from_squares g.aside 525000000 (omega (arith, c.sides, m))
