-- The excesses and the cap are what the functions of tests compute, and no others are.
use Rattle.std.proofs.Common.{◌≡◌, inl, inr, Bool, true, Option, ℕ, ◌^◌, ◌≤◌, ℤ, pos, neg_ℤ, ◌+ℤ◌, ◌-ℤ◌, ◌≤ℤ◌, unsigned_abs, arith, refl, sym, ◌∙◌, ap}
use Rattle.std.specs.Prelude.{IfSome}
use Rattle.std.proofs.lemmas.Bool.{cases_Bool}
use Rattle.std.proofs.lemmas.Int.{by_lt_z, ints}
use Rattle.grid_exact.specs.declared.point.Point.{Point}
use Rattle.grid_exact.specs.declared.cap.Cap.{Cap}
use Rattle.grid_exact.specs.declared.cap.Cap.TheVariants.{Level, Beyond}
use Rattle.grid_exact.specs.declared.level.TheConstants.{LEVEL_LIMIT}
use Rattle.grid_exact.specs.Excess.{IsExcess, greatest_up_to, most_excess}
use Rattle.grid_exact.specs.Level.{IsLevel}
use Rattle.grid_exact.proofs.Booleans.{not_from_false}
use Rattle.grid_exact.proofs.ExcessLemmas.{excess_of-IsExcess, excess_of-is, flat_excess-IsExcess, flat_excess_of-is, greatest_up_to-most, greatest_up_to-passes, within_most}
use Rattle.airfields.specs.declared.airfield.Airport.{Airport}
use Rattle.airfields.specs.Airfields.{IsHeldAirport}
use Rattle.horizontal_hull.specs.declared.edge.Edge.TheVariants.{Closed}
use Rattle.horizontal_hull.specs.declared.sizes.TheConstants.{CONICAL_RISE, CONICAL_RUN}
use Rattle.horizontal_hull.specs.Arcs.{Dome, dome_of}
use Rattle.horizontal_hull.specs.Within.{IsCap, IsLeastConical, Within, below_edge, cap_of, conical, conical_covers, conical_excess, horizontal, horizontal_excess, is_above_conical, is_at_conical, is_within}
use Rattle.horizontal_hull.proofs.Conical.{AboveConical-At, AtConical-test, AtConical_edge, conical_tests}
use Rattle.horizontal_hull.proofs.Grows.{Within_grows}
use Rattle.horizontal_hull.proofs.Tests.{Within-test}

-- ---- the excesses, where the horizontal surface is at a level
in_range : (level top z : ℤ) → neg_ℤ LEVEL_LIMIT ≤ℤ level → IsLevel top → level ≤ℤ z → (top -ℤ pos most_excess) ≤ℤ z
unfolding most_excess
in_range level top z low l h = omega (arith, ints, low, l.high, h)

pub horizontal_at : (d : Dome) (x : Point) (top : ℤ) → neg_ℤ LEVEL_LIMIT ≤ℤ d.level → IsLevel top → IsExcess (horizontal d x) top (horizontal_excess d x top)
unfolding horizontal_excess
horizontal_at d x top low l =
    let t = Within-test Closed d.arcs x 0 in
    flat_excess-IsExcess (Within Closed d.arcs x 0) (is_within Closed d.arcs x 0) d.level top l low t.1 t.0

pub conical_at : (d : Dome) (x : Point) (top : ℤ) → neg_ℤ LEVEL_LIMIT ≤ℤ d.level → IsLevel top → IsExcess (conical d x) top (conical_excess d x top)
unfolding conical_excess
conical_at d x top low l =
    excess_of-IsExcess (conical d x) (conical_covers d x) (is_above_conical d x) (is_at_conical d x) most_excess top (conical_tests d x) (AboveConical-At d x top)
    (λ p q z h. in_range d.level top z low l h.not_below)

-- what is found as one of them, within the range of levels, is the one that they compute
pub horizontal_listed : (d : Dome) (x : Point) (top : ℤ) (r : Option ℕ) → IfSome r (λ e. e ≤ 2 ^ 26) → IsExcess (horizontal d x) top r → r ≡ horizontal_excess d x top
unfolding horizontal_excess
horizontal_listed d x top r size h =
    let t = Within-test Closed d.arcs x 0 in
    sym (flat_excess_of-is (Within Closed d.arcs x 0) (is_within Closed d.arcs x 0) d.level top r t.1 t.0 size h)

pub conical_listed : (d : Dome) (x : Point) (top : ℤ) (r : Option ℕ) → IfSome r (λ e. e ≤ 2 ^ 26) → IsExcess (conical d x) top r → r ≡ conical_excess d x top
unfolding conical_excess
conical_listed d x top r size h = sym (excess_of-is (conical d x) (conical_covers d x) (is_above_conical d x) (is_at_conical d x) most_excess top r (conical_tests d x) (within_most r size) h)

-- ---- the cap
-- the search finds the way down from the outer edge's level to the least level
below_edge-least : (d : Dome) (x : Point) → Within Closed d.arcs x CONICAL_RUN → IsLeastConical d x (d.level +ℤ pos CONICAL_RISE -ℤ pos (below_edge d x))
below_edge-least d x w =
    let edge : ℤ = d.level +ℤ pos CONICAL_RISE in
    let p : ℕ → Bool = λ e. is_at_conical d x (edge -ℤ pos e) in
    let start : p 0 ≡ true = (AtConical-test d x (edge -ℤ pos 0)).1 (rw (none edge) (AtConical_edge d x w)) in
    record {
      reaches = (AtConical-test d x (edge -ℤ pos (greatest_up_to p CONICAL_RISE))).0 (greatest_up_to-passes p CONICAL_RISE start);
      least = λ y h. by_lt_z edge y (λ l. omega (arith, ints, l))
          (λ l. let e : ℕ = unsigned_abs (edge -ℤ y) in
          let t : p e ≡ true = (AtConical-test d x (edge -ℤ pos e)).1 (rw (down edge y l) h) in
          up edge y (greatest_up_to p CONICAL_RISE) l (greatest_up_to-most p CONICAL_RISE e (range d.level y h.not_below l) t));
    }
  where
    none : (edge : ℤ) → edge -ℤ pos 0 ≡ edge
    none edge = omega (arith, ints)

    range : (level y : ℤ) → level ≤ℤ y → y ≤ℤ (level +ℤ pos CONICAL_RISE) → unsigned_abs (level +ℤ pos CONICAL_RISE -ℤ y) ≤ CONICAL_RISE
    range level y h k = omega (arith, ints)

    down : (edge y : ℤ) → y ≤ℤ edge → edge -ℤ pos (unsigned_abs (edge -ℤ y)) ≡ y
    down edge y h = omega (arith, ints)

    up : (edge y : ℤ) (e : ℕ) → y ≤ℤ edge → unsigned_abs (edge -ℤ y) ≤ e → (edge -ℤ pos e) ≤ℤ y
    up edge y e h k = omega (arith, ints)

pub cap_at : (d : Dome) (x : Point) → IsCap d x (cap_of d x)
unfolding cap_of
cap_at d x =
    let inner = Within-test Closed d.arcs x 0 in
    let outer = Within-test Closed d.arcs x CONICAL_RUN in
    elim (cases_Bool (is_within Closed d.arcs x 0)) [
      | inl t ↦ rw t (inl (inner.0 t, refl))
      | inr f ↦ elim (cases_Bool (is_within Closed d.arcs x CONICAL_RUN)) [
        | inl t ↦ rw (f, t) (inr (record { within_outer = outer.0 t; not_inner = not_from_false (is_within Closed d.arcs x 0) inner.1 f }, below_edge-least d x (outer.0 t)))
        | inr g ↦ rw (f, g) (not_from_false (is_within Closed d.arcs x CONICAL_RUN) outer.1 g)
      ]
    ]

covered : (d : Dome) (x : Point) (z : ℤ) → IsCap d x (Level z) → Within Closed d.arcs x CONICAL_RUN
covered d x z h = elim h [ inl i ↦ Within_grows Closed d.arcs x 0 CONICAL_RUN (omega arith) i.0 | inr i ↦ i.0.within_outer ]

IsCap-unique : (d : Dome) (x : Point) (c c' : Cap) → IsCap d x c → IsCap d x c' → c ≡ c'
IsCap-unique d x (Level z) (Level z') h k =
    elim h [
      | inl i ↦ elim k [ inl j ↦ ap Level (i.1 ∙ sym j.1) | inr j ↦ absurd (j.0.not_inner i.0) ]
      | inr i ↦ elim k [ inl j ↦ absurd (i.0.not_inner j.0) | inr j ↦ ap Level (omega (arith, ints, i.1.least z' j.1.reaches, j.1.least z i.1.reaches)) ]
    ]
IsCap-unique d x (Level z) Beyond h k = absurd (k (covered d x z h))
IsCap-unique d x Beyond (Level z') h k = absurd (h (covered d x z' k))
IsCap-unique d x Beyond Beyond h k = refl

pub cap_listed : (d : Dome) (x : Point) (c : Cap) → IsCap d x c → c ≡ cap_of d x
cap_listed d x c h = IsCap-unique d x c (cap_of d x) h (cap_at d x)

-- ---- at an airport
above_least_level : (a : Airport) → IsHeldAirport a → neg_ℤ LEVEL_LIMIT ≤ℤ (dome_of a).level
unfolding dome_of
above_least_level a h = omega (arith, ints, h.elevation.least)

pub horizontal_law : (a : Airport) (x : Point) (top : ℤ) → IsHeldAirport a → IsLevel top → IsExcess (horizontal (dome_of a) x) top (horizontal_excess (dome_of a) x top)
horizontal_law a x top h l = horizontal_at (dome_of a) x top (above_least_level a h) l

pub conical_law : (a : Airport) (x : Point) (top : ℤ) → IsHeldAirport a → IsLevel top → IsExcess (conical (dome_of a) x) top (conical_excess (dome_of a) x top)
conical_law a x top h l = conical_at (dome_of a) x top (above_least_level a h) l

pub cap_law : (a : Airport) (x : Point) → IsCap (dome_of a) x (cap_of (dome_of a) x)
cap_law a x = cap_at (dome_of a) x

pub ruleset laws = (horizontal_law, conical_law, cap_law)
