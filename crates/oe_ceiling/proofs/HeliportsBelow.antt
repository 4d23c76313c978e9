-- The surfaces of a heliport and its slope of notice: a top that exceeds none exceeds none from lower down.
use Rattle.std.proofs.Common.{ℕ, ℤ, pos, ◌*◌, ◌*ℤ◌, ◌-ℤ◌, ◌≤ℤ◌, ◌<ℤ◌, ◌≤◌, arith, refl, Option, Bool, true, false, cond, int_le}
use Rattle.std.specs.Prelude.{int_lt, if◌then◌else◌}
use Rattle.std.proofs.Math.Nat.{mul-le-mul, mul-le-mul_right}
use Rattle.std.proofs.lemmas.Int.{ints}
use Rattle.grid_exact.specs.Excess.{is_at_most_root, is_below_root, most_excess}
use Rattle.grid_exact.specs.Lines.{Offset}
use Rattle.grid_exact.specs.Root.{BelowRoot}
use Rattle.grid_exact.specs.declared.point.Point.{Point}
use Rattle.airfields.specs.Categories.{is_described, is_military}
use Rattle.airfields.specs.declared.airfield.Heliport.{Heliport}
use Rattle.heliport_surfaces.specs.declared.parts.PadEnd.{PadEnd}
use Rattle.heliport_surfaces.specs.declared.parts.PadEnd.TheVariants.{One, Two}
use Rattle.heliport_surfaces.specs.declared.parts.Beside.{Beside}
use Rattle.heliport_surfaces.specs.declared.parts.Beside.TheVariants.{Primary, ApproachOne, ApproachTwo}
use Rattle.heliport_surfaces.specs.Places.{Heights, excess_over, is_covered, is_covered_beside}
use Rattle.heliport_surfaces.specs.Landings.{Landing, primary_place, primary_side_heights}
use Rattle.heliport_surfaces.specs.Approaches.{approach_heights, approach_place, approach_side_heights}
use Rattle.heliport_surfaces.specs.Notices.{Gap, IsNearer, IsOver, corner, excess_over_notice, gap, is_in_line}
use Rattle.heliport_surfaces.specs.Pads.{approach_of, approach_offset, approach_slope, excess_if, excess_over_side, landing_of, landing_offset}
use Rattle.heliport_surfaces.specs.Pads.{pad_approach_excess, pad_notice_excess, pad_primary_excess, pad_transition_excess}
use Rattle.heliport_surfaces.proofs.NoticeFacts.{notice_tests}
use Rattle.oe_ceiling.proofs.Lowering.{BelowRoot_less, BelowRoot_more, NoneBelow, flat_rises, none_below, root_rises, tests_below}

-- for the heliports that have surfaces
if_below : (b : Bool) (excess : ℤ → Option ℕ) → NoneBelow excess → NoneBelow (λ z. excess_if b (excess z))
if_below true excess below y z l h = below y z l h
if_below false excess below y z l h = refl

heights_below : (covers : Bool) (h : Heights) → pos 0 <ℤ h.k → NoneBelow (excess_over covers h)
heights_below covers h p = none_below covers (λ z. is_below_root h.a (h.k *ℤ z -ℤ h.c) h.n) (λ z. is_at_most_root h.a (h.k *ℤ z -ℤ h.c) h.n) most_excess (root_rises h.a h.k h.c h.n p)

pub pad_primary_below : (h : Heliport) (x : Point) → NoneBelow (pad_primary_excess h x)
unfolding pad_primary_excess
pad_primary_below h x =
    let l = landing_of h in
    if_below (is_described h.category) _ (none_below (is_covered (primary_place l (landing_offset h x))) (λ z. int_lt l.z z) (λ z. int_le l.z z) most_excess (flat_rises l.z))

slopes : (military : Bool) (a b : ℤ) → pos 0 <ℤ a → pos 0 <ℤ b → pos 0 <ℤ cond military a b
slopes true a b h k = h
slopes false a b h k = k

slope_rises : (h : Heliport) → pos 0 <ℤ approach_slope h
slope_rises h = slopes (is_military h.category) _ _ (omega (arith, ints)) (omega (arith, ints))

approach_rises : (h : Heliport) (end : PadEnd) (o : Offset) → pos 0 <ℤ (approach_heights (approach_of h end) o).k
unfolding approach_heights approach_of
approach_rises h end o = slope_rises h

pub pad_approach_below : (h : Heliport) (end : PadEnd) (x : Point) → NoneBelow (pad_approach_excess h end x)
unfolding pad_approach_excess
pad_approach_below h end x =
    let a = approach_of h end in
    let o = approach_offset h end x in
    if_below (is_described h.category) _ (heights_below (is_covered (approach_place a o)) (approach_heights a o) (approach_rises h end o))

primary_side_rises : (l : Landing) (o : Offset) → pos 0 <ℤ (primary_side_heights l o).k
unfolding primary_side_heights
primary_side_rises l o = omega (arith, ints)

approach_side_rises : (h : Heliport) (end : PadEnd) (o : Offset) → pos 0 <ℤ (approach_side_heights (approach_of h end) o).k
unfolding approach_side_heights approach_of
approach_side_rises h end o = let s : pos 0 <ℤ approach_slope h = slope_rises h in omega (arith, ints, s)

side_below : (h : Heliport) (beside : Beside) (x : Point) → NoneBelow (excess_over_side h beside x)
side_below h Primary x =
    let l = landing_of h in
    let o = landing_offset h x in
    heights_below (is_covered_beside (primary_place l o)) (primary_side_heights l o) (primary_side_rises l o)
side_below h ApproachOne x =
    let a = approach_of h One in
    let o = approach_offset h One x in
    heights_below (is_covered_beside (approach_place a o)) (approach_side_heights a o) (approach_side_rises h One o)
side_below h ApproachTwo x =
    let a = approach_of h Two in
    let o = approach_offset h Two x in
    heights_below (is_covered_beside (approach_place a o)) (approach_side_heights a o) (approach_side_rises h Two o)

pub pad_transition_below : (h : Heliport) (beside : Beside) (x : Point) → NoneBelow (pad_transition_excess h beside x)
unfolding pad_transition_excess
pad_transition_below h beside x = if_below (is_described h.category) (excess_over_side h beside x) (side_below h beside x)

-- ---- the slope of notice
corner_less : (g : Gap) (d e : ℕ) → d ≤ e → corner g e ≤ℤ corner g d
corner_less g d e h = omega (arith, ints, mul-le-mul_right g.square (mul-le-mul h h))

-- a point that is nearer than a distance is nearer than every longer one
nearer_more : (g : Gap) (d e : ℕ) → d ≤ e → IsNearer g d → IsNearer g e
nearer_more g d e h =
    let edge = pos (4 * g.aside * g.width) in
    elim (is_in_line g) as (λ b. BelowRoot (if b then pos g.beyond else corner g d) (if b then pos d else edge) g.square → BelowRoot (if b then pos g.beyond else corner g e) (if b then pos e else edge) g.square) [
      | true ↦ λ k. BelowRoot_more (pos g.beyond) (pos d) (pos e) g.square (omega (arith, ints)) k
      | false ↦ λ k. BelowRoot_less (corner g d) (corner g e) edge g.square (corner_less g d e h) k
    ]

over_more : (Is : ℕ → Type 0) → ((d e : ℕ) → Is d → d ≤ e → Is e) → (z y top : ℤ) → y ≤ℤ top → IsOver Is z y → IsOver Is z top
over_more Is more z y top h a =
    let low : z ≤ℤ y = a.not_below in
    record { not_below = omega (arith, ints); distance = more _ _ a.distance (omega (arith, ints)) }

pub pad_notice_below : (h : Heliport) (x : Point) → NoneBelow (pad_notice_excess h x)
unfolding pad_notice_excess
pad_notice_below h x =
    let l = landing_of h in
    let o = landing_offset h x in
    if_below (is_described h.category) (excess_over_notice l o) (tests_below most_excess (notice_tests l o) (over_more (IsNearer (gap l o)) (λ d e k m. nearer_more (gap l o) d e m k) l.z))
