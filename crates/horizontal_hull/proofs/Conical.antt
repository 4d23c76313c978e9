-- The conical surface rises outward, and the tests that compute what the specifications say of it.
use Rattle.std.proofs.Common.{◌≡◌, ◌↔◌, Some, ℕ, ◌*◌, ◌<◌, ◌≤◌, ℤ, pos, ◌+ℤ◌, ◌-ℤ◌, ◌≤ℤ◌, ◌<ℤ◌, unsigned_abs, arith, subst}
use Rattle.std.specs.Prelude.{IsTrue, int_le, not}
use Rattle.std.proofs.lemmas.Int.{ints}
use Rattle.grid_exact.specs.declared.point.Point.{Point}
use Rattle.grid_exact.specs.Excess.{ExceedsBy}
use Rattle.grid_exact.proofs.ExcessLemmas.{IsExcess-covered, Tests, exceeds_by}
use Rattle.horizontal_hull.specs.declared.edge.Edge.TheVariants.{Closed, Open}
use Rattle.horizontal_hull.specs.declared.sizes.TheConstants.{CONICAL_RISE, CONICAL_RUN, CONICAL_SLOPE}
use Rattle.horizontal_hull.specs.Arcs.{Dome}
use Rattle.horizontal_hull.specs.Rises.{IsRise}
use Rattle.horizontal_hull.specs.Within.{AboveConical, AtConical, ConicalCovers, IsLeastConical, Within, conical, conical_covers, is_above_conical, is_at_conical, is_within, run_to}
use Rattle.center_polygon.proofs.SomeFacts.{and_test, not_test}
use Rattle.center_polygon.proofs.Deciding.{int_le_test}
use Rattle.horizontal_hull.proofs.Tests.{Within-test}
use Rattle.horizontal_hull.proofs.Grows.{Within_closes, Within_opens}

-- ---- how far out a level is
run_lt : (level y z : ℤ) → level ≤ℤ y → y <ℤ z → CONICAL_SLOPE * unsigned_abs (y -ℤ level) < CONICAL_SLOPE * unsigned_abs (z -ℤ level)
run_lt level y z h k = omega (arith, ints)

run_edge : (level : ℤ) → CONICAL_SLOPE * unsigned_abs (level +ℤ pos CONICAL_RISE -ℤ level) ≡ CONICAL_RUN
run_edge level = omega (arith, ints)

-- ---- levels above one that is at or above the conical surface are above it
pub AboveConical_rises : (d : Dome) (x : Point) (y z : ℤ) → y <ℤ z → AtConical d x y → AboveConical d x z
AboveConical_rises d x y z l h = record {
  not_below = omega (arith, ints, l, h.not_below);
  strictly = Within_opens d.arcs x (run_to d y) (run_to d z) (run_lt d.level y z h.not_below l) h.within;
}

pub AboveConical-At : (d : Dome) (x : Point) (z : ℤ) → AboveConical d x z → AtConical d x z
AboveConical-At d x z h = record { not_below = h.not_below; within = Within_closes d.arcs x (run_to d z) h.strictly }

-- the outer edge's level is at or above it
pub AtConical_edge : (d : Dome) (x : Point) → Within Closed d.arcs x CONICAL_RUN → AtConical d x (d.level +ℤ pos CONICAL_RISE)
AtConical_edge d x h = record { not_below = omega (arith, ints); within = rw (run_edge d.level) h }

-- ---- the least level
pub least_range : (d : Dome) (x : Point) (z : ℤ) → Within Closed d.arcs x CONICAL_RUN → IsLeastConical d x z → (d.level ≤ℤ z) × (z ≤ℤ (d.level +ℤ pos CONICAL_RISE))
least_range d x z h least = (least.reaches.not_below, least.least (d.level +ℤ pos CONICAL_RISE) (AtConical_edge d x h))

pub rise_conical : (d : Dome) (x : Point) (rise : ℕ) (z : ℤ) → z ≡ d.level +ℤ pos rise → IsRise d.arcs x rise → IsLeastConical d x z
rise_conical d x rise z e h =
    let run : rise ≡ unsigned_abs (z -ℤ d.level) = omega (arith, ints, e) in
    record {
      reaches = record { not_below = omega (arith, ints, e); within = subst (λ n. Within Closed d.arcs x (CONICAL_SLOPE * n)) run h.reaches };
      least = λ y k. (let m : rise ≤ unsigned_abs (y -ℤ d.level) = h.least (unsigned_abs (y -ℤ d.level)) k.within in omega (arith, ints, e, m, k.not_below));
    }

pub under_top : (d : Dome) (x : Point) (top level : ℤ) → IsLeastConical d x level → AboveConical d x top → level ≤ℤ top
under_top d x top level least above = least.least top (AboveConical-At d x top above)

-- the excess is the way down to it
pub conical_exceeds : (d : Dome) (x : Point) (top level : ℤ) → ConicalCovers d x → IsLeastConical d x level → AboveConical d x top → ExceedsBy (conical d x) top (unsigned_abs (top -ℤ level))
conical_exceeds d x top level covers least above =
    IsExcess-covered (conical d x) top (Some (unsigned_abs (top -ℤ level))) covers
    (exceeds_by (AboveConical d x) (AtConical d x) top level (AboveConical-At d x) above least.reaches least.least)

-- ---- the tests
pub AtConical-test : (d : Dome) (x : Point) (z : ℤ) → IsTrue (is_at_conical d x z) ↔ AtConical d x z
AtConical-test d x z =
    let h = and_test (int_le d.level z) (is_within Closed d.arcs x (run_to d z)) (int_le_test d.level z) (Within-test Closed d.arcs x (run_to d z)) in
    (λ t. record { not_below = (h.0 t).0; within = (h.0 t).1 }, λ k. h.1 (k.not_below, k.within))

AboveConical-test : (d : Dome) (x : Point) (z : ℤ) → IsTrue (is_above_conical d x z) ↔ AboveConical d x z
AboveConical-test d x z =
    let h = and_test (int_le d.level z) (is_within Open d.arcs x (run_to d z)) (int_le_test d.level z) (Within-test Open d.arcs x (run_to d z)) in
    (λ t. record { not_below = (h.0 t).0; strictly = (h.0 t).1 }, λ k. h.1 (k.not_below, k.strictly))

ConicalCovers-test : (d : Dome) (x : Point) → IsTrue (conical_covers d x) ↔ ConicalCovers d x
ConicalCovers-test d x =
    let inner = Within-test Closed d.arcs x 0 in
    let h = and_test (is_within Closed d.arcs x CONICAL_RUN) (not (is_within Closed d.arcs x 0)) (Within-test Closed d.arcs x CONICAL_RUN) (not_test (is_within Closed d.arcs x 0) inner) in
    (λ t. record { within_outer = (h.0 t).0; not_inner = (h.0 t).1 }, λ k. h.1 (k.within_outer, k.not_inner))

pub conical_tests : (d : Dome) (x : Point) → Tests (conical d x) (conical_covers d x) (is_above_conical d x) (is_at_conical d x)
conical_tests d x =
    let c = ConicalCovers-test d x in
    record {
      covers_out = c.1;
      covers_in = c.0;
      above_out = λ z. (AboveConical-test d x z).1;
      above_in = λ z. (AboveConical-test d x z).0;
      at_out = λ z. (AtConical-test d x z).1;
      at_in = λ z. (AtConical-test d x z).0;
    }
