-- The limit near an airport: its lowest level, and its excess as the tests compute it.
use Rattle.std.proofs.Common.{◌≡◌, ℕ, ℤ, pos, ◌-ℤ◌, ◌*ℤ◌, ◌*◌, ◌≤ℤ◌, ◌<ℤ◌, ◌<◌, ◌≤◌, ◌^◌, arith, refl, sym, subst, Option, Bool, true, false, cond, inl, inr}
use Rattle.std.specs.Prelude.{⊤, int_lt, IfSome}
use Rattle.std.specs.Bool.{MatchBool}
use Rattle.std.specs.Int.{int_max}
use Rattle.std.specs.List.{list_any}
use Rattle.std.proofs.lemmas.Bool.{cases_Bool, leb-false}
use Rattle.std.proofs.lemmas.Int.{ints, by_lt_z}
use Rattle.grid_exact.specs.Root.{signed_square, AboveRoot, AtLeastRoot}
use Rattle.grid_exact.specs.Excess.{IsExcess, covering_surface, flat_surface, is_at_least_root, most_excess}
use Rattle.grid_exact.proofs.IntLaws.{signed_square_le}
use Rattle.grid_exact.proofs.ExcessLemmas.{Tests, excess_of-IsExcess, excess_of-is, within_most}
use Rattle.grid_exact.proofs.TestFacts.{above_in, above_out, all_true, at_least_in, at_least_out, first_true, le_in, le_out, lt_in, lt_out, second_true, third_true}
use Rattle.airfields.specs.Sites.{IsSite, Site}
use Rattle.airfields.specs.Categories.{is_described}
use Rattle.airfields.specs.Runways.{is_long}
use Rattle.airfields.specs.declared.airfield.Airport.{Airport}
use Rattle.height_rules.specs.Heights.{standards_top}
use Rattle.height_rules.specs.Limits.{IsAtLimit, IsAboveLimit, inner_limit, is_inner, reach_of}
use Rattle.height_rules.specs.declared.limit.TheConstants.{INNER_RADIUS, NAUTICAL_MILE, RISE_PER_MILE}
use Rattle.height_rules.specs.declared.near_airport.TheConstants.{OUTER_HUNDREDTHS, OUTER_SQUARE}
use Rattle.height_rules.proofs.HeightFacts.{IsTop, standards_is_top}
use Rattle.height_rules.specs.Laws.{above_reaches, reach_rises}
use Rattle.height_rules.specs.NearAirport.{IsNear, near_surface, near_excess, is_near, is_at_limit, is_above_limit, square_distance, base_of}

-- beyond three nautical miles no level less than 200 feet over the base is at the limit
pub far_of : (d2 : ℕ) → is_inner d2 ≡ false → INNER_RADIUS * INNER_RADIUS < d2
far_of d2 e = leb-false d2 (INNER_RADIUS * INNER_RADIUS) e

pub floor_beyond : (d2 : ℕ) (base z : ℤ) → INNER_RADIUS * INNER_RADIUS < d2 → AtLeastRoot (reach_of base z) RISE_PER_MILE d2 → inner_limit base ≤ℤ z
floor_beyond d2 base z far k =
    by_lt_z z (inner_limit base)
    (λ l. absurd (let m : signed_square (reach_of base z) ≤ℤ signed_square (RISE_PER_MILE *ℤ pos INNER_RADIUS) = signed_square_le (reach_of base z) (RISE_PER_MILE *ℤ pos INNER_RADIUS) (omega (arith, ints)) in
    omega (arith, ints, k.at_least, m)))
    (λ l. l)

-- no level less than 200 feet over the base is at the limit
pub floor_of : (d2 : ℕ) (base z : ℤ) → IsAtLimit d2 base z → inner_limit base ≤ℤ z
floor_of d2 base z =
    elim (is_inner d2) as (λ b. is_inner d2 ≡ b → MatchBool b (inner_limit base ≤ℤ z) (AtLeastRoot (reach_of base z) RISE_PER_MILE d2) → inner_limit base ≤ℤ z) [
      | true ↦ λ e k. k
      | false ↦ λ e k. floor_beyond d2 base z (far_of d2 e) k
    ] refl

-- no level up to 200 feet over the base is above the limit
not_over_beyond : (d2 : ℕ) (base z : ℤ) → INNER_RADIUS * INNER_RADIUS < d2 → z ≤ℤ inner_limit base → AboveRoot (reach_of base z) RISE_PER_MILE d2 → ⊥
not_over_beyond d2 base z far l k =
    let m : signed_square (reach_of base z) ≤ℤ signed_square (RISE_PER_MILE *ℤ pos INNER_RADIUS) = signed_square_le (reach_of base z) (RISE_PER_MILE *ℤ pos INNER_RADIUS) (omega (arith, ints)) in
    omega (arith, ints, k.above, m, far)

pub not_over : (d2 : ℕ) (base z : ℤ) → z ≤ℤ inner_limit base → IsAboveLimit d2 base z → ⊥
not_over d2 base z l =
    elim (is_inner d2) as (λ b. is_inner d2 ≡ b → MatchBool b (inner_limit base <ℤ z) (AboveRoot (reach_of base z) RISE_PER_MILE d2) → ⊥) [
      | true ↦ λ e k. omega (arith, ints, l, k)
      | false ↦ λ e k. not_over_beyond d2 base z (far_of d2 e) l k
    ] refl

-- where a level does not reach the rising limit, none up to it does
pub none_under : (d2 : ℕ) (base g z : ℤ) → (AtLeastRoot (reach_of base (g -ℤ pos 1)) RISE_PER_MILE d2 → ⊥) → AtLeastRoot (reach_of base z) RISE_PER_MILE d2 → g ≤ℤ z
none_under d2 base g z missed h = by_lt_z (g -ℤ pos 1) z (λ l. omega (arith, ints, l)) (λ l. absurd (missed (reach_rises d2 base z (g -ℤ pos 1) l h)))

-- the excess over the limit is that over its level part within three nautical miles, and that over its rising part farther away
pub inner_excess : (d2 : ℕ) (base top : ℤ) (r : Option ℕ) → is_inner d2 ≡ true → IsExcess (flat_surface ⊤ (inner_limit base)) top r → IsExcess (covering_surface (IsAboveLimit d2 base) (IsAtLimit d2 base)) top r
inner_excess d2 base top r e h =
    subst (λ (b : Bool). IsExcess (covering_surface (λ z. MatchBool b (inner_limit base <ℤ z) (AboveRoot (reach_of base z) RISE_PER_MILE d2)) (λ z. MatchBool b (inner_limit base ≤ℤ z) (AtLeastRoot (reach_of base z) RISE_PER_MILE d2))) top r) (sym e) h

pub outer_excess : (d2 : ℕ) (base top : ℤ) (r : Option ℕ) → is_inner d2 ≡ false → IsExcess (covering_surface (λ z. AboveRoot (reach_of base z) RISE_PER_MILE d2) (λ z. AtLeastRoot (reach_of base z) RISE_PER_MILE d2)) top r → IsExcess (covering_surface (IsAboveLimit d2 base) (IsAtLimit d2 base)) top r
outer_excess d2 base top r e h =
    subst (λ (b : Bool). IsExcess (covering_surface (λ z. MatchBool b (inner_limit base <ℤ z) (AboveRoot (reach_of base z) RISE_PER_MILE d2)) (λ z. MatchBool b (inner_limit base ≤ℤ z) (AtLeastRoot (reach_of base z) RISE_PER_MILE d2))) top r) (sym e) h

-- within 5.99 nautical miles by the square of the distance
pub outer_in : (d2 : ℕ) → d2 ≤ OUTER_SQUARE → AtLeastRoot (OUTER_HUNDREDTHS *ℤ NAUTICAL_MILE) (pos 100) d2
outer_in d2 h = record { at_least = omega (arith, ints, h) }

pub outer_out : (d2 : ℕ) → AtLeastRoot (OUTER_HUNDREDTHS *ℤ NAUTICAL_MILE) (pos 100) d2 → d2 ≤ OUTER_SQUARE
outer_out d2 h = omega (arith, ints, h.at_least)

pub ruleset outer = (outer_in, outer_out)

max_left : (x y : ℤ) → x ≤ℤ int_max x y
max_left x y = elim (cases_Bool (int_lt y x)) [ inl t ↦ rw t (omega (arith, ints)) | inr t ↦ rw t (grind (arith, ints)) ]

pub max_right : (x y : ℤ) → y ≤ℤ int_max x y
max_right x y = elim (cases_Bool (int_lt y x)) [ inl t ↦ rw t (grind (arith, ints)) | inr t ↦ rw t (omega (arith, ints)) ]

-- ---- the tests
pick_out : (b : Bool) (P Q : Type 0) (p q : Bool) → (P → p ≡ true) → (Q → q ≡ true) → MatchBool b P Q → cond b p q ≡ true
pick_out true P Q p q f g h = f h
pick_out false P Q p q f g h = g h

pick_in : (b : Bool) (P Q : Type 0) (p q : Bool) → (p ≡ true → P) → (q ≡ true → Q) → cond b p q ≡ true → MatchBool b P Q
pick_in true P Q p q f g h = f h
pick_in false P Q p q f g h = g h

limit_out : (d2 : ℕ) (base z : ℤ) → IsAtLimit d2 base z → is_at_limit d2 base z ≡ true
unfolding is_at_limit
limit_out d2 base z = pick_out (is_inner d2) _ _ _ _ (le_out (inner_limit base) z) (at_least_out (reach_of base z) RISE_PER_MILE d2)

limit_in : (d2 : ℕ) (base z : ℤ) → is_at_limit d2 base z ≡ true → IsAtLimit d2 base z
unfolding is_at_limit
limit_in d2 base z = pick_in (is_inner d2) _ _ _ _ (le_in (inner_limit base) z) (at_least_in (reach_of base z) RISE_PER_MILE d2)

over_out : (d2 : ℕ) (base z : ℤ) → IsAboveLimit d2 base z → is_above_limit d2 base z ≡ true
unfolding is_above_limit
over_out d2 base z = pick_out (is_inner d2) _ _ _ _ (lt_out (inner_limit base) z) (above_out (reach_of base z) RISE_PER_MILE d2)

over_in : (d2 : ℕ) (base z : ℤ) → is_above_limit d2 base z ≡ true → IsAboveLimit d2 base z
unfolding is_above_limit
over_in d2 base z = pick_in (is_inner d2) _ _ _ _ (lt_in (inner_limit base) z) (above_in (reach_of base z) RISE_PER_MILE d2)

-- whether the site is near enough
abbrev is_within : Airport → Site → Bool
is_within a s = is_at_least_root (OUTER_HUNDREDTHS *ℤ NAUTICAL_MILE) (pos 100) (square_distance a s)

near_out : (a : Airport) (s : Site) → IsNear a s → is_near a s ≡ true
unfolding is_near
near_out a s h = all_true (is_within a s) (is_described a.category) (list_any is_long a.runways) (at_least_out _ _ _ h.within) h.described h.long

pub near_in : (a : Airport) (s : Site) → is_near a s ≡ true → IsNear a s
unfolding is_near
near_in a s h = record {
  within = at_least_in _ _ _ (first_true (is_within a s) (is_described a.category) (list_any is_long a.runways) h);
  described = second_true (is_within a s) (is_described a.category) (list_any is_long a.runways) h;
  long = third_true (is_within a s) (is_described a.category) (list_any is_long a.runways) h;
}

near_tests : (a : Airport) (s : Site) → Tests (near_surface a s) (is_near a s) (is_above_limit (square_distance a s) (base_of a s)) (is_at_limit (square_distance a s) (base_of a s))
near_tests a s =
    let d2 = square_distance a s in
    let base = base_of a s in
    record {
      covers_out = near_out a s;
      covers_in = near_in a s;
      above_out = over_out d2 base;
      above_in = over_in d2 base;
      at_out = limit_out d2 base;
      at_in = limit_in d2 base;
    }

-- the excess is what the tests compute
pub near_listed : (a : Airport) (s : Site) (r : Option ℕ) → IfSome r (λ e. e ≤ 2 ^ 26) → IsExcess (near_surface a s) (standards_top s) r → r ≡ near_excess a s
unfolding near_excess
near_listed a s r size h =
    let d2 = square_distance a s in
    let base = base_of a s in
    sym (excess_of-is (near_surface a s) (is_near a s) (is_above_limit d2 base) (is_at_limit d2 base) most_excess (standards_top s) r (near_tests a s) (within_most r size) h)

low_enough : (s : Site) (base top z : ℤ) → IsSite s → IsTop s top → s.terrain ≤ℤ base → inner_limit base ≤ℤ z → (top -ℤ pos most_excess) ≤ℤ z
unfolding most_excess
low_enough s base top z h t g l = omega (arith, ints, h.terrain_least, t.high, g, l)

-- and what they compute is the excess
pub near_excess_is : (a : Airport) (s : Site) → IsSite s → IsExcess (near_surface a s) (standards_top s) (near_excess a s)
unfolding near_excess
near_excess_is a s h =
    let d2 = square_distance a s in
    let base = base_of a s in
    let top = standards_top s in
    excess_of-IsExcess (near_surface a s) (is_near a s) (is_above_limit d2 base) (is_at_limit d2 base) most_excess top (near_tests a s) (above_reaches d2 base top)
    (λ p q z r. low_enough s base top z h (standards_is_top s h) (max_left s.terrain a.elevation) (floor_of d2 base z r))
