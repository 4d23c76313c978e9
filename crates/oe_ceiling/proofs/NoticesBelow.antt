-- The limit near an airport and the slope of notice from its runways: a top that exceeds none exceeds none from lower down.
use Rattle.std.proofs.Common.{◌≡◌, ℕ, ℤ, pos, ◌*◌, ◌-ℤ◌, ◌≤ℤ◌, ◌<ℤ◌, ◌<◌, ◌≤◌, unsigned_abs, arith, refl, Option, Some, None, Bool, true, false, cond, int_le}
use Rattle.std.specs.Prelude.{int_lt, nat_lt, option_map, option_and_then}
use Rattle.std.proofs.Math.Nat.{mul-le-mul, mul-le-mul_right}
use Rattle.std.proofs.lemmas.Bool.{and_from, and_parts, lt-ltb, ltb-true}
use Rattle.std.proofs.lemmas.Int.{ints}
use Rattle.grid_exact.specs.Excess.{is_above_root, most_excess}
use Rattle.grid_exact.specs.Laws.{mul-le_left}
use Rattle.grid_exact.specs.declared.point.Point.{Point}
use Rattle.grid_exact.proofs.TestFacts.{above_in, above_out, le_in, le_out, lt_in, lt_out}
use Rattle.airfields.specs.Sites.{Site}
use Rattle.airfields.specs.declared.airfield.Airport.{Airport}
use Rattle.airfields.specs.declared.runway.Runway.{Runway}
use Rattle.height_rules.specs.Limits.{inner_limit, is_inner, reach_of}
use Rattle.height_rules.specs.NearAirport.{base_of, is_above_limit, is_at_limit, is_near, near_excess, square_distance}
use Rattle.height_rules.specs.Heights.{standards_top}
use Rattle.height_rules.specs.declared.limit.TheConstants.{RISE_PER_MILE}
use Rattle.runway_notice.specs.Distances.{Fraction, is_above_root_of, is_at_least_root_of, run_of}
use Rattle.runway_notice.specs.Nearest.{distance_of, elevation_of, nearest}
use Rattle.runway_notice.specs.Notices.{notice_slope, slope_by}
use Rattle.runway_notice.specs.Slopes.{ratio_of, sub_of}
use Rattle.runway_notice.specs.Surfaces.{is_in_range, run_to, slope_excess}
use Rattle.runway_notice.proofs.SlopeFacts.{ratio_rises}
use Rattle.oe_ceiling.specs.Ceilings.{at_height}
use Rattle.oe_ceiling.proofs.Lowering.{AboveRoot_more, NoneBelow, Rises, none_below}

-- ---- the limit near an airport
reach_le : (base y z : ℤ) → y ≤ℤ z → reach_of base y ≤ℤ reach_of base z
reach_le base y z h = omega (arith, ints)

limit_rises_by : (inner : Bool) (d2 : ℕ) (base y z : ℤ) → y ≤ℤ z → cond inner (int_lt (inner_limit base) y) (is_above_root (reach_of base y) RISE_PER_MILE d2) ≡ true →
    cond inner (int_lt (inner_limit base) z) (is_above_root (reach_of base z) RISE_PER_MILE d2) ≡ true
limit_rises_by true d2 base y z l h = lt_out (inner_limit base) z (let k : inner_limit base <ℤ y = lt_in (inner_limit base) y h in omega (arith, ints, l, k))
limit_rises_by false d2 base y z l h = above_out (reach_of base z) RISE_PER_MILE d2 (AboveRoot_more (reach_of base y) (reach_of base z) RISE_PER_MILE d2 (reach_le base y z l) (above_in (reach_of base y) RISE_PER_MILE d2 h))

limit_rises : (d2 : ℕ) (base : ℤ) → Rises (is_above_limit d2 base)
unfolding is_above_limit
limit_rises d2 base y z l h = limit_rises_by (is_inner d2) d2 base y z l h

pub near_below : (a : Airport) (s : Site) (lower higher : ℤ) → standards_top (at_height s lower) ≤ℤ standards_top (at_height s higher) → near_excess a (at_height s higher) ≡ None → near_excess a (at_height s lower) ≡ None
unfolding near_excess is_near
near_below a s lower higher l h =
    let d2 = square_distance a s in
    let base = base_of a s in
    none_below (is_near a s) (is_above_limit d2 base) (is_at_limit d2 base) most_excess (limit_rises d2 base) (standards_top (at_height s lower)) (standards_top (at_height s higher)) l h

-- ---- the slope of notice
squares_le : (b c : ℤ) (n : ℕ) → pos 0 ≤ℤ b → b ≤ℤ c → unsigned_abs b * unsigned_abs b * n ≤ unsigned_abs c * unsigned_abs c * n
squares_le b c n p l =
    let s : unsigned_abs b ≤ unsigned_abs c = omega (arith, ints) in
    mul-le-mul_right n (mul-le-mul s s)

above_root_rises : (d : Fraction) (b c : ℤ) → b ≤ℤ c → is_above_root_of d b ≡ true → is_above_root_of d c ≡ true
above_root_rises d b c l h =
    let p = and_parts (int_le (pos 0) b) (nat_lt d.part (unsigned_abs b * unsigned_abs b * d.whole)) h in
    let low : pos 0 ≤ℤ b = le_in (pos 0) b p.0 in
    let k : d.part < unsigned_abs b * unsigned_abs b * d.whole = ltb-true d.part (unsigned_abs b * unsigned_abs b * d.whole) p.1 in
    let m : d.part < unsigned_abs c * unsigned_abs c * d.whole = omega (arith, k, squares_le b c d.whole low l) in
    and_from _ _ (le_out (pos 0) c (omega (arith, ints, low, l))) (lt-ltb d.part (unsigned_abs c * unsigned_abs c * d.whole) m)

slope_rises : (a : Airport) (r : Runway) (x : Point) → Rises (λ z. is_above_root_of (distance_of x r) (run_to a r x z))
slope_rises a r x y z l h =
    let base = elevation_of x r in
    let ratio = ratio_of (sub_of a.runways) in
    above_root_rises (distance_of x r) (run_of ratio base y) (run_of ratio base z) (mul-le_left ratio (y -ℤ base) (z -ℤ base) (ratio_rises (sub_of a.runways)) (omega (arith, ints, l))) h

slope_excess_below : (a : Airport) (r : Runway) (x : Point) → NoneBelow (slope_excess a r x)
unfolding slope_excess
slope_excess_below a r x =
    none_below (is_in_range a r x) (λ z. is_above_root_of (distance_of x r) (run_to a r x z)) (λ z. is_at_least_root_of (distance_of x r) (run_to a r x z)) most_excess (slope_rises a r x)

none_mapped : {A B : Type 0} (f : A → B) (o : Option A) → option_map f o ≡ None → o ≡ None
none_mapped f None h = refl
none_mapped f (Some x) h = absurd (cc)

nearest_below : (a : Airport) (x : Point) (o : Option Runway) (y z : ℤ) → y ≤ℤ z → option_and_then (λ r. option_map (slope_by a r) (slope_excess a r x z)) o ≡ None →
    option_and_then (λ r. option_map (slope_by a r) (slope_excess a r x y)) o ≡ None
nearest_below a x None y z l h = refl
nearest_below a x (Some r) y z l h =
    let e : slope_excess a r x y ≡ None = slope_excess_below a r x y z l (none_mapped (slope_by a r) (slope_excess a r x z) h) in
    rw e refl

pub slope_below : (a : Airport) (x : Point) (y z : ℤ) → y ≤ℤ z → notice_slope a x z ≡ None → notice_slope a x y ≡ None
unfolding notice_slope
slope_below a x y z l h = nearest_below a x (nearest a.runways x) y z l h
