-- What the surfaces of a heliport are, and that what the tests compute is the excess over them.
use Rattle.std.proofs.Common.{◌≡◌, ℕ, ℤ, ◌-ℤ◌, ◌<◌, Bool, true, false, Option, Some, None, subst, unsigned_abs, arith, refl}
use Rattle.std.specs.Prelude.{if◌then◌else◌}
use Rattle.std.proofs.lemmas.Int.{ints}
use Rattle.grid_exact.specs.Excess.{IsExcess, Surface}
use Rattle.grid_exact.specs.Level.{IsLevel}
use Rattle.grid_exact.specs.Lines.{Line, Offset, offset}
use Rattle.grid_exact.specs.Vector.{length_of}
use Rattle.grid_exact.specs.declared.point.Point.{Point}
use Rattle.grid_exact.proofs.ExcessLemmas.{flat_excess-IsExcess}
use Rattle.airfields.specs.Airfields.{IsHeldHeliport}
use Rattle.airfields.specs.Categories.{is_described, is_military}
use Rattle.airfields.specs.declared.airfield.Heliport.{Heliport}
use Rattle.heliport_surfaces.specs.declared.parts.Beside.{Beside}
use Rattle.heliport_surfaces.specs.declared.parts.Beside.TheVariants.{Primary, ApproachOne, ApproachTwo}
use Rattle.heliport_surfaces.specs.declared.parts.PadEnd.{PadEnd}
use Rattle.heliport_surfaces.specs.declared.parts.PadEnd.TheVariants.{One, Two}
use Rattle.heliport_surfaces.specs.declared.rules.TheConstants.{CIVIL_SLOPE, MILITARY_SLOPE}
use Rattle.heliport_surfaces.specs.Places.{IsCovered, IsCoveredBeside, is_covered, is_covered_beside}
use Rattle.heliport_surfaces.specs.Approaches.{Approach, approach, approach_heights, approach_place, approach_side, approach_side_heights, excess_over_approach, excess_over_approach_side}
use Rattle.heliport_surfaces.specs.Notices.{excess_over_notice, notice}
use Rattle.heliport_surfaces.specs.Landings.{Landing, excess_over_primary, excess_over_primary_side, primary, primary_place, primary_side, primary_side_heights}
use Rattle.heliport_surfaces.specs.Pads.{surface_if, excess_if, excess_over_side, side_surface, approach_of, approach_offset, approach_slope, landing_of, landing_offset, pad_approach, pad_approach_excess, pad_notice, pad_notice_excess, pad_primary, pad_primary_excess, pad_transition, pad_transition_excess}
use Rattle.heliport_surfaces.specs.Sizes.{HasPadSizes, IsPadSlope}
use Rattle.heliport_surfaces.proofs.NoticeFacts.{notice-IsExcess}
use Rattle.heliport_surfaces.proofs.PadSizes.{approach_rises, approach_side_rises, primary_side_rises}
use Rattle.heliport_surfaces.proofs.PlaceFacts.{beside_in, beside_out, covered_in, covered_out, excess_over-IsExcess}

-- ---- shapes whose parts are the same
abbrev shaped_landing : Line → ℤ → ℤ → Landing
shaped_landing l w z = record { line = l; width = w; z = z }

abbrev shaped_approach : Line → ℤ → ℤ → ℤ → Approach
shaped_approach l w z s = record { line = l; width = w; z = z; slope = s }

pub same_landing : (l l' : Line) (w w' z z' : ℤ) → l ≡ l' → w ≡ w' → z ≡ z' → shaped_landing l w z ≡ shaped_landing l' w' z'
same_landing l l' w w' z z' a b d = rw (a, b, d)

pub same_approach : (l l' : Line) (w w' z z' s s' : ℤ) → l ≡ l' → w ≡ w' → z ≡ z' → s ≡ s' → shaped_approach l w z s ≡ shaped_approach l' w' z' s'
same_approach l l' w w' z z' s s' a b d e = rw (a, b, d, e)

-- the way back is as long
pub length_back : (a b : Point) → length_of (a.x -ℤ b.x) (a.y -ℤ b.y) ≡ length_of (b.x -ℤ a.x) (b.y -ℤ a.y)
length_back a b =
    let ex : unsigned_abs (a.x -ℤ b.x) ≡ unsigned_abs (b.x -ℤ a.x) = omega (arith, ints) in
    let ey : unsigned_abs (a.y -ℤ b.y) ≡ unsigned_abs (b.y -ℤ a.y) = omega (arith, ints) in
    rw (ex, ey) refl

-- ---- surfaces that some heliports alone have
only_if-IsExcess : (b : Bool) (s : Surface) (top : ℤ) (e : Option ℕ) → IsExcess s top e → IsExcess (surface_if b s) top (excess_if b e)
only_if-IsExcess true s top None h = λ p. h (p.0.covered, p.1)
only_if-IsExcess true s top (Some e) h = record { covers = record { there = refl; covered = h.covers }; above = h.above; at_or_above = h.at_or_above; greatest = h.greatest }
only_if-IsExcess false s top e h = λ p. let k : false ≡ true = p.0.there in cc

pub is_there : (b : Bool) (r e : Option ℕ) → b ≡ true → r ≡ e → r ≡ excess_if b e
is_there b r e t h = rw t h

-- what is computed of a prepared part at the offset from its line is that of what the part is
pub there : {A : Type 0} (b : Bool) (f : A → Offset → ℤ → Option ℕ) (line : A → Line) (p q : A) (o : Offset) (x : Point) (top : ℤ) (r : Option ℕ) → b ≡ true → p ≡ q → o ≡ offset (line p) x → r ≡ f p o top →
    r ≡ excess_if b (f q (offset (line q) x) top)
there {A} b f line p q o x top r t e k h =
    let P : A → Type 0 = λ s. r ≡ f s (offset (line s) x) top in
    let Q : Offset → Type 0 = λ u. r ≡ f p u top in
    rw t (subst P e (subst Q k h))

-- ---- a heliport within its limits
pub held_sizes : (h : Heliport) → IsHeldHeliport h → HasPadSizes h.width h.elevation
held_sizes h k = record { width_least = k.width_least; width_most = k.width_most; z_size = omega (arith, ints, k.elevation.least, k.elevation.most) }

pub held_slope : (h : Heliport) → IsPadSlope (approach_slope h)
held_slope h =
    elim (is_military h.category) as (λ b. IsPadSlope (if b then MILITARY_SLOPE else CIVIL_SLOPE)) [
      | true ↦ record { slope_least = omega (arith, ints); slope_most = omega (arith, ints) }
      | false ↦ record { slope_least = omega (arith, ints); slope_most = omega (arith, ints) }
    ]

landing_some : (h : Heliport) (x : Point) → IsHeldHeliport h → 0 < (landing_offset h x).square
unfolding landing_of
landing_some h x k = omega (arith, k.axis_least)

approach_some : (h : Heliport) (end : PadEnd) (x : Point) → IsHeldHeliport h → 0 < (approach_offset h end x).square
unfolding approach_of
approach_some h One x k = rw (length_back h.a h.b) (omega (arith, k.axis_least))
approach_some h Two x k = omega (arith, k.axis_least)

-- ---- what the tests compute is the excess
primary-IsExcess : (l : Landing) (o : Offset) (top : ℤ) → HasPadSizes l.width l.z → IsLevel top → IsExcess (primary l o) top (excess_over_primary l o top)
primary-IsExcess l o top h level =
    let p = primary_place l o in
    flat_excess-IsExcess (IsCovered p) (is_covered p) l.z top level (omega (arith, ints, h.z_size)) (covered_out p) (covered_in p)

primary_side-IsExcess : (l : Landing) (o : Offset) (top : ℤ) → HasPadSizes l.width l.z → 0 < o.square → IsLevel top → IsExcess (primary_side l o) top (excess_over_primary_side l o top)
primary_side-IsExcess l o top h some level =
    let p = primary_place l o in
    excess_over-IsExcess (IsCoveredBeside p) (is_covered_beside p) (primary_side_heights l o) top level (beside_out p) (beside_in p) (λ c. primary_side_rises l o h some (beside_out p c))

approach-IsExcess : (a : Approach) (o : Offset) (top : ℤ) → HasPadSizes a.width a.z → IsPadSlope a.slope → IsLevel top → IsExcess (approach a o) top (excess_over_approach a o top)
approach-IsExcess a o top h s level =
    let p = approach_place a o in
    excess_over-IsExcess (IsCovered p) (is_covered p) (approach_heights a o) top level (covered_out p) (covered_in p) (λ c. approach_rises a o h s (covered_out p c))

approach_side-IsExcess : (a : Approach) (o : Offset) (top : ℤ) → HasPadSizes a.width a.z → IsPadSlope a.slope → 0 < o.square → IsLevel top → IsExcess (approach_side a o) top (excess_over_approach_side a o top)
approach_side-IsExcess a o top h s some level =
    let p = approach_place a o in
    excess_over-IsExcess (IsCoveredBeside p) (is_covered_beside p) (approach_side_heights a o) top level (beside_out p) (beside_in p) (λ c. approach_side_rises a o h s some (beside_out p c))

beside_approach-IsExcess : (h : Heliport) (end : PadEnd) (x : Point) (top : ℤ) → IsHeldHeliport h → IsLevel top →
    IsExcess (approach_side (approach_of h end) (approach_offset h end x)) top (excess_over_approach_side (approach_of h end) (approach_offset h end x) top)
unfolding approach_of
beside_approach-IsExcess h end x top k level =
    approach_side-IsExcess (approach_of h end) (approach_offset h end x) top (held_sizes h k) (held_slope h) (approach_some h end x k) level

side-IsExcess : (h : Heliport) (beside : Beside) (x : Point) (top : ℤ) → IsHeldHeliport h → IsLevel top → IsExcess (side_surface h beside x) top (excess_over_side h beside x top)
unfolding landing_of
side-IsExcess h Primary x top k level = primary_side-IsExcess (landing_of h) (landing_offset h x) top (held_sizes h k) (landing_some h x k) level
side-IsExcess h ApproachOne x top k level = beside_approach-IsExcess h One x top k level
side-IsExcess h ApproachTwo x top k level = beside_approach-IsExcess h Two x top k level

pub pad_primary-IsExcess : (h : Heliport) (x : Point) (top : ℤ) → IsHeldHeliport h → IsLevel top → IsExcess (pad_primary h x) top (pad_primary_excess h x top)
unfolding landing_of pad_primary_excess
pad_primary-IsExcess h x top k level =
    let l = landing_of h in
    let o = landing_offset h x in
    only_if-IsExcess (is_described h.category) (primary l o) top (excess_over_primary l o top) (primary-IsExcess l o top (held_sizes h k) level)

pub pad_approach-IsExcess : (h : Heliport) (end : PadEnd) (x : Point) (top : ℤ) → IsHeldHeliport h → IsLevel top → IsExcess (pad_approach h end x) top (pad_approach_excess h end x top)
unfolding approach_of pad_approach_excess
pad_approach-IsExcess h end x top k level =
    let a = approach_of h end in
    let o = approach_offset h end x in
    only_if-IsExcess (is_described h.category) (approach a o) top (excess_over_approach a o top) (approach-IsExcess a o top (held_sizes h k) (held_slope h) level)

pub pad_transition-IsExcess : (h : Heliport) (beside : Beside) (x : Point) (top : ℤ) → IsHeldHeliport h → IsLevel top → IsExcess (pad_transition h beside x) top (pad_transition_excess h beside x top)
unfolding pad_transition_excess
pad_transition-IsExcess h beside x top k level =
    only_if-IsExcess (is_described h.category) (side_surface h beside x) top (excess_over_side h beside x top) (side-IsExcess h beside x top k level)

pub pad_notice-IsExcess : (h : Heliport) (x : Point) (top : ℤ) → IsHeldHeliport h → IsLevel top → IsExcess (pad_notice h x) top (pad_notice_excess h x top)
unfolding landing_of pad_notice_excess
pad_notice-IsExcess h x top k level =
    let l = landing_of h in
    let o = landing_offset h x in
    only_if-IsExcess (is_described h.category) (notice l o) top (excess_over_notice l o top) (notice-IsExcess l o top (held_sizes h k).z_size level)

pub ruleset laws = (pad_primary-IsExcess, pad_approach-IsExcess, pad_transition-IsExcess, pad_notice-IsExcess)
