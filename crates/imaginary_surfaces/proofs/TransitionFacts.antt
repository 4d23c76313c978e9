-- The slopes of transitional surfaces, what they cover, and excesses by the tests that compute it.
use Rattle.std.proofs.Common.{◌≡◌, ℕ, ◌*◌, ◌^◌, ◌<◌, ◌≤◌, ℤ, pos, ◌+ℤ◌, ◌-ℤ◌, ◌*ℤ◌, ◌<ℤ◌, unsigned_abs, arith, sym, subst, refl, Option, Bool, true, false, ◌&&◌, int_le, int_lt}
use Rattle.std.specs.Prelude.{IfSome, ⊤}
use Rattle.std.proofs.Math.IntN.{*ℤ_comm}
use Rattle.std.proofs.lemmas.Bool.{and_parts}
use Rattle.std.proofs.lemmas.Int.{ints, by_lt_z, unsigned_abs-mul}
use Rattle.std.proofs.lemmas.Nat.{mul-le}
use Rattle.grid_exact.specs.Root.{AtLeastRoot, signed_square}
use Rattle.grid_exact.specs.Level.{Reaches}
use Rattle.grid_exact.specs.Excess.{IsExcess, root_surface, is_at_least_root, is_at_most_root}
use Rattle.grid_exact.specs.Lines.{Offset, offset}
use Rattle.grid_exact.specs.declared.cap.Cap.{Cap}
use Rattle.grid_exact.specs.declared.cap.Cap.TheVariants.{Level, Beyond}
use Rattle.grid_exact.specs.declared.point.Point.{Point}
use Rattle.grid_exact.proofs.ExcessLemmas.{root_excess_of-is}
use Rattle.grid_exact.proofs.IntLaws.{mul-le_left, mul-lt_right, signed_square_le, signed_square_lt}
use Rattle.grid_exact.proofs.Sizes.{abs_sub_le}
use Rattle.grid_exact.proofs.TestFacts.{all_true, at_least_in, at_least_out, at_most_in, at_most_out, first_true, le_in, le_out, lt_in, lt_out, second_true, third_true}
use Rattle.airfields.specs.declared.runway.Runway.{Runway}
use Rattle.runway_lines.specs.declared.end.End.{End}
use Rattle.imaginary_surfaces.specs.Primaries.{IsWidth, Primary}
use Rattle.imaginary_surfaces.specs.Approaches.{Approach, IsRise, lateral_excess}
use Rattle.imaginary_surfaces.specs.Transitions.{EndsAt, Incline, TransitionCovers, ends_at, transition, transition_excess_of}
use Rattle.imaginary_surfaces.specs.Transitions.{ReachesBesidePrimary, incline_beside_primary, reaches_beside_primary}
use Rattle.imaginary_surfaces.specs.Transitions.{GoesBeyond, ReachesBesideApproach, goes_beyond, incline_beside_approach, reaches_beside_approach}
use Rattle.imaginary_surfaces.specs.Strips.{primary_of, approach_of, primary_transition_surface, approach_transition_surface, primary_transition_excess, approach_transition_excess}
use Rattle.imaginary_surfaces.proofs.SurfaceFacts.{root_for}
use Rattle.imaginary_surfaces.specs.declared.measures.TheConstants.{APPROACH_FACTOR, HALF_WIDTH_SCALE, SCALED_REACH}

-- what is at least the root of a positive factor is positive
pub from_side_positive : (a w : ℤ) (n : ℕ) → pos 0 <ℤ w → 0 < n → AtLeastRoot a w n → pos 0 <ℤ a
from_side_positive a w n p r h =
    by_lt_z (pos 0) a
    (λ l. l)
    (λ l. absurd (omega (arith, ints, mul-lt_right (signed_square (pos 0)) (signed_square w) n r (signed_square_lt (pos 0) w p), signed_square_le a (pos 0) l, h.at_least)))

pub outside_positive : (a : Approach) (o : Offset) → IsWidth a.width → 0 < o.square → ReachesBesideApproach a o → pos 0 <ℤ lateral_excess a o
outside_positive a o w n h = from_side_positive (lateral_excess a o) (HALF_WIDTH_SCALE *ℤ a.width) o.square (omega (arith, ints, w.least)) n h.from_side

pub left_positive : (s out m : ℤ) → pos 0 <ℤ s → pos 0 <ℤ out → pos 0 <ℤ m → pos 0 <ℤ (s *ℤ out +ℤ APPROACH_FACTOR *ℤ m)
left_positive s out m p q r = omega (arith, ints, mul-le_left s (pos 0) out p (omega (arith, ints, q)), *ℤ_comm s (pos 0), r)

-- sizes of the two parts of what a slope has at the line
pub record ShiftParts (slope from_base from_side : ℤ) : Type 0 where
  pub slope_size : unsigned_abs slope ≤ 50
  pub base_size : unsigned_abs from_base ≤ unsigned_abs slope * (280 * 2 ^ 19)
  pub side_size : unsigned_abs from_side ≤ unsigned_abs slope * 200000

pub shift_parts : (slope base width left right : ℤ) → IsRise slope base → IsWidth width →
    unsigned_abs left ≡ unsigned_abs (APPROACH_FACTOR *ℤ slope) * unsigned_abs base → unsigned_abs right ≡ unsigned_abs (HALF_WIDTH_SCALE *ℤ slope) * unsigned_abs width → ShiftParts slope left right
shift_parts slope base width left right rise wide el er =
    let w : unsigned_abs width ≤ 10000 = omega (arith, ints, wide.least, wide.most) in
    let a : unsigned_abs (APPROACH_FACTOR *ℤ slope) ≡ 280 * unsigned_abs slope = omega (arith, ints, rise.rises) in
    let b : unsigned_abs (HALF_WIDTH_SCALE *ℤ slope) ≡ 20 * unsigned_abs slope = omega (arith, ints, rise.rises) in
    let p : unsigned_abs left ≤ (280 * unsigned_abs slope) * 2 ^ 19 = rw (el, a) (mul-le (280 * unsigned_abs slope) (unsigned_abs base) (280 * unsigned_abs slope) (2 ^ 19) (omega arith) rise.base_size) in
    let q : unsigned_abs right ≤ (20 * unsigned_abs slope) * 10000 = rw (er, b) (mul-le (20 * unsigned_abs slope) (unsigned_abs width) (20 * unsigned_abs slope) 10000 (omega arith) w) in
    record { slope_size = omega (arith, ints, rise.rises, rise.slope_most); base_size = omega (arith, p); side_size = omega (arith, q) }

pub shift_size : (slope base width : ℤ) → IsRise slope base → IsWidth width → unsigned_abs (APPROACH_FACTOR *ℤ slope *ℤ base -ℤ HALF_WIDTH_SCALE *ℤ slope *ℤ width) ≤ unsigned_abs (APPROACH_FACTOR *ℤ slope) * 2 ^ 25
shift_size slope base width rise wide =
    let left = APPROACH_FACTOR *ℤ slope *ℤ base in
    let right = HALF_WIDTH_SCALE *ℤ slope *ℤ width in
    let parts = shift_parts slope base width left right rise wide (unsigned_abs-mul (APPROACH_FACTOR *ℤ slope) base) (unsigned_abs-mul (HALF_WIDTH_SCALE *ℤ slope) width) in
    let a : unsigned_abs (APPROACH_FACTOR *ℤ slope) ≡ 280 * unsigned_abs slope = omega (arith, ints, rise.rises) in
    rw a (omega (arith, abs_sub_le left right, parts.base_size, parts.side_size))

-- ---- inclines whose parts are the same
abbrev inclined : ℤ → ℤ → ℤ → ℕ → Incline
inclined l f s n = record { left = l; factor = f; shift = s; square = n }

pub same_incline : (l l' f f' s s' : ℤ) (n n' : ℕ) → l ≡ l' → f ≡ f' → s ≡ s' → n ≡ n' → inclined l f s n ≡ inclined l' f' s' n'
same_incline l l' f f' s s' n n' a b d e = rw (a, b, d, e)

-- ---- a slope is a transitional surface where that one reaches the point: it ends at a limit, or goes beyond
pub transition_up_to : (C B : Type 0) (i j : Incline) (l top : ℤ) (r : Option ℕ) → j ≡ i → C → IsExcess (root_surface (Reaches j.left j.factor j.shift j.square l) j.left j.factor j.shift j.square) top r →
    IsExcess (transition C i B (Level l)) top r
transition_up_to C B i j l top r e c h =
    root_for (Reaches i.left i.factor i.shift i.square l) (TransitionCovers C i B (Level l)) i.left i.factor i.shift i.square top r
    (λ q b. record { reached = c; limited = q }) (λ (q : TransitionCovers C i B (Level l)). q.limited)
    (subst (λ (z : Incline). IsExcess (root_surface (Reaches z.left z.factor z.shift z.square l) z.left z.factor z.shift z.square) top r) e h)

pub transition_beyond : (C B : Type 0) (i j : Incline) (top : ℤ) (r : Option ℕ) → j ≡ i → C → B → IsExcess (root_surface ⊤ j.left j.factor j.shift j.square) top r → IsExcess (transition C i B Beyond) top r
transition_beyond C B i j top r e c b h =
    root_for ⊤ (TransitionCovers C i B Beyond) i.left i.factor i.shift i.square top r (λ q d. record { reached = c; limited = b }) (λ q. tt)
    (subst (λ (z : Incline). IsExcess (root_surface ⊤ z.left z.factor z.shift z.square) top r) e h)

-- ---- what covers a point, as the tests compute it
both_true : (a b : Bool) → a ≡ true → b ≡ true → a && b ≡ true
both_true a b x y = rw (x, y) refl

pub primary_reached : (p : Primary) (o : Offset) → ReachesBesidePrimary p o → reaches_beside_primary p o ≡ true
unfolding reaches_beside_primary
primary_reached p o h =
    let q = pos (2 * o.aside) in
    all_true (int_le (pos 0) o.along) (int_le o.along (pos o.square)) (is_at_least_root q p.width o.square)
    (le_out (pos 0) o.along h.past_start) (le_out o.along (pos o.square) h.before_end) (at_least_out q p.width o.square h.from_side)

pub primary_reaches : (p : Primary) (o : Offset) → reaches_beside_primary p o ≡ true → ReachesBesidePrimary p o
unfolding reaches_beside_primary
primary_reaches p o h =
    let q = pos (2 * o.aside) in
    let a = int_le (pos 0) o.along in
    let b = int_le o.along (pos o.square) in
    let d = is_at_least_root q p.width o.square in
    record {
      past_start = le_in (pos 0) o.along (first_true a b d h);
      before_end = le_in o.along (pos o.square) (second_true a b d h);
      from_side = at_least_in q p.width o.square (third_true a b d h);
    }

pub approach_reached : (a : Approach) (o : Offset) → ReachesBesideApproach a o → reaches_beside_approach a o ≡ true
unfolding reaches_beside_approach
approach_reached a o h =
    let half = HALF_WIDTH_SCALE *ℤ a.width in
    all_true (int_lt (pos 0) o.along) (is_at_most_root o.along a.class.length o.square) (is_at_least_root (lateral_excess a o) half o.square)
    (lt_out (pos 0) o.along h.ahead) (at_most_out o.along a.class.length o.square h.not_past) (at_least_out (lateral_excess a o) half o.square h.from_side)

pub approach_reaches : (a : Approach) (o : Offset) → reaches_beside_approach a o ≡ true → ReachesBesideApproach a o
unfolding reaches_beside_approach
approach_reaches a o h =
    let half = HALF_WIDTH_SCALE *ℤ a.width in
    let b = int_lt (pos 0) o.along in
    let d = is_at_most_root o.along a.class.length o.square in
    let e = is_at_least_root (lateral_excess a o) half o.square in
    record {
      ahead = lt_in (pos 0) o.along (first_true b d e h);
      not_past = at_most_in o.along a.class.length o.square (second_true b d e h);
      from_side = at_least_in (lateral_excess a o) half o.square (third_true b d e h);
    }

pub beyond_out : (a : Approach) (o : Offset) → GoesBeyond a o → goes_beyond a o ≡ true
unfolding goes_beyond
beyond_out a o h =
    let far = HALF_WIDTH_SCALE *ℤ a.width +ℤ SCALED_REACH in
    both_true a.precision (is_at_most_root (lateral_excess a o) far o.square) h.precision (at_most_out (lateral_excess a o) far o.square h.near)

pub beyond_in : (a : Approach) (o : Offset) → goes_beyond a o ≡ true → GoesBeyond a o
unfolding goes_beyond
beyond_in a o h =
    let far = HALF_WIDTH_SCALE *ℤ a.width +ℤ SCALED_REACH in
    let t = is_at_most_root (lateral_excess a o) far o.square in
    record { precision = (and_parts a.precision t h).0; near = at_most_in (lateral_excess a o) far o.square (and_parts a.precision t h).1 }

-- a surface's two conditions, and the tests that compute them
pub record TransitionTests (reaches : Type 0) (t : Bool) (beyond : Type 0) (u : Bool) : Type 0 where
  pub reaches_out : reaches → t ≡ true
  pub reaches_in : t ≡ true → reaches
  pub beyond_out : beyond → u ≡ true
  pub beyond_in : u ≡ true → beyond

ended : (i : Incline) (B : Type 0) (u : Bool) (cap : Cap) → (B → u ≡ true) → EndsAt i B cap → ends_at i u cap ≡ true
ended i B u (Level l) out h = at_most_out i.left (i.factor *ℤ l -ℤ i.shift) i.square h
ended i B u Beyond out h = out h

ends : (i : Incline) (B : Type 0) (u : Bool) (cap : Cap) → (u ≡ true → B) → ends_at i u cap ≡ true → EndsAt i B cap
ends i B u (Level l) in_ h = at_most_in i.left (i.factor *ℤ l -ℤ i.shift) i.square h
ends i B u Beyond in_ h = in_ h

pub transition_out : (C : Type 0) (t : Bool) (i : Incline) (B : Type 0) (u : Bool) (cap : Cap) → TransitionTests C t B u → TransitionCovers C i B cap → t && ends_at i u cap ≡ true
transition_out C t i B u cap tests h = both_true t (ends_at i u cap) (tests.reaches_out h.reached) (ended i B u cap tests.beyond_out h.limited)

pub transition_in : (C : Type 0) (t : Bool) (i : Incline) (B : Type 0) (u : Bool) (cap : Cap) → TransitionTests C t B u → t && ends_at i u cap ≡ true → TransitionCovers C i B cap
transition_in C t i B u cap tests h = record {
  reached = tests.reaches_in (and_parts t (ends_at i u cap) h).0;
  limited = ends i B u cap tests.beyond_in (and_parts t (ends_at i u cap) h).1;
}

pub primary_tests : (p : Primary) (o : Offset) → TransitionTests (ReachesBesidePrimary p o) (reaches_beside_primary p o) ⊥ false
primary_tests p o = record { reaches_out = primary_reached p o; reaches_in = primary_reaches p o; beyond_out = λ h. absurd h; beyond_in = λ h. cc }

pub approach_tests : (a : Approach) (o : Offset) → TransitionTests (ReachesBesideApproach a o) (reaches_beside_approach a o) (GoesBeyond a o) (goes_beyond a o)
approach_tests a o = record { reaches_out = approach_reached a o; reaches_in = approach_reaches a o; beyond_out = beyond_out a o; beyond_in = beyond_in a o }

-- ---- an excess is what the tests compute
transition_listed : (C : Type 0) (t : Bool) (i : Incline) (B : Type 0) (u : Bool) (cap : Cap) (top : ℤ) (e : Option ℕ) → TransitionTests C t B u → IfSome e (λ d. d ≤ 2 ^ 26) →
    IsExcess (transition C i B cap) top e → e ≡ transition_excess_of t i u cap top
transition_listed C t i B u cap top e tests size h =
    sym (root_excess_of-is (TransitionCovers C i B cap) (t && ends_at i u cap) i.left i.factor i.shift i.square top e
    (transition_out C t i B u cap tests) (transition_in C t i B u cap tests) size h)

pub primary_transition_listed : (r : Runway) (x : Point) (cap : Cap) (top : ℤ) (e : Option ℕ) → IfSome e (λ d. d ≤ 2 ^ 26) → IsExcess (primary_transition_surface r x cap) top e →
    e ≡ primary_transition_excess r x cap top
unfolding primary_transition_excess
primary_transition_listed r x cap top e size h =
    let p = primary_of r in
    let o = offset p.line x in
    transition_listed (ReachesBesidePrimary p o) (reaches_beside_primary p o) (incline_beside_primary p o x) ⊥ false cap top e (primary_tests p o) size h

pub approach_transition_listed : (r : Runway) (end : End) (x : Point) (cap : Cap) (top : ℤ) (e : Option ℕ) → IfSome e (λ d. d ≤ 2 ^ 26) → IsExcess (approach_transition_surface r end x cap) top e →
    e ≡ approach_transition_excess r end x cap top
unfolding approach_transition_excess
approach_transition_listed r end x cap top e size h =
    let a = approach_of r end in
    let o = offset a.line x in
    transition_listed (ReachesBesideApproach a o) (reaches_beside_approach a o) (incline_beside_approach a o) (GoesBeyond a o) (goes_beyond a o) cap top e (approach_tests a o) size h
