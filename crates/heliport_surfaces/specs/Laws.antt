-- For proofs alone: the slope of notice is reached at every level above one that reaches it.
use Rattle.std.specs.Prelude.{ℕ, ℤ, pos, ◌*◌, ◌-ℤ◌, ◌≤◌, ◌≤ℤ◌, if◌then◌else◌, unsigned_abs, true, false}
use Rattle.std.proofs.Common.{arith}
use Rattle.std.proofs.Math.Nat.{mul-le-mul, mul-le-mul_right}
use Rattle.std.proofs.lemmas.Int.{ints}
use Rattle.grid_exact.specs.Root.{AtMostRoot}
use Rattle.grid_exact.specs.Laws.{AtMostRoot_more, BelowRoot-AtMostRoot}
use Rattle.grid_exact.proofs.RootOrder.{AtMostRoot_less}
use Rattle.heliport_surfaces.specs.Notices.{Gap, IsWithin, IsAtNotice, IsAboveNotice, excess_away, reach, corner, is_in_line}
use Rattle.heliport_surfaces.specs.declared.rules.TheConstants.{NOTICE_SLOPE}

corner_less : (g : Gap) (d e : ℕ) → d ≤ e → corner g e ≤ℤ corner g d
corner_less g d e h = omega (arith, ints, mul-le-mul_right g.square (mul-le-mul h h))

-- a point that is within a distance is within every longer one
pub IsWithin_more : (g : Gap) (d e : ℕ) → d ≤ e → IsWithin g d → IsWithin g e
IsWithin_more g d e h =
    let edge = pos (4 * g.aside * g.width) in
    elim (is_in_line g) as (λ b. AtMostRoot (if b then pos g.beyond else corner g d) (if b then pos d else edge) g.square → AtMostRoot (if b then pos g.beyond else corner g e) (if b then pos e else edge) g.square) [
      | true ↦ λ k. AtMostRoot_more (pos g.beyond) (pos d) (pos e) g.square (omega (arith, ints)) k
      | false ↦ λ k. AtMostRoot_less (corner g d) (corner g e) edge g.square (corner_less g d e h) k
    ]

pub notice_rises : (z : ℤ) (g : Gap) (y top : ℤ) → y ≤ℤ top → IsAtNotice z g y → IsAtNotice z g top
notice_rises z g y top h k =
    let low : z ≤ℤ y = k.not_below in
    record {
      not_below = omega (arith, ints);
      distance = IsWithin_more g (NOTICE_SLOPE * unsigned_abs (y -ℤ z)) (NOTICE_SLOPE * unsigned_abs (top -ℤ z)) (omega (arith, ints)) k.distance;
    }

pub above_reaches : (z : ℤ) (g : Gap) (top : ℤ) → IsAboveNotice z g top → IsAtNotice z g top
above_reaches z g top h =
    let d = NOTICE_SLOPE * unsigned_abs (top -ℤ z) in
    record { not_below = h.not_below; distance = BelowRoot-AtMostRoot (excess_away g d) (reach g d) g.square h.distance }
