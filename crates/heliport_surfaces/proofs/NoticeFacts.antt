-- The slope of notice, and the tests that compute it.
use Rattle.std.proofs.Common.{◌≡◌, ℕ, ℤ, ◌*◌, ◌<◌, ◌≤◌, ◌^◌, ◌+ℤ◌, ◌-ℤ◌, ◌<ℤ◌, Bool, true, int_le, unsigned_abs, arith}
use Rattle.std.specs.Cmp.Derive.{both_true}
use Rattle.std.proofs.lemmas.Bool.{and_parts}
use Rattle.std.proofs.lemmas.Int.{ints}
use Rattle.grid_exact.specs.Excess.{IsExcess, most_excess}
use Rattle.grid_exact.specs.Level.{IsLevel}
use Rattle.grid_exact.specs.Lines.{Offset}
use Rattle.grid_exact.proofs.ExcessLemmas.{Tests, excess_of-IsExcess}
use Rattle.grid_exact.proofs.TestFacts.{at_most_in, at_most_out, below_in, below_out, le_in, le_out}
use Rattle.heliport_surfaces.specs.Landings.{Landing}
use Rattle.heliport_surfaces.specs.Laws.{above_reaches}
use Rattle.heliport_surfaces.specs.Notices.{Gap, IsAboveNotice, IsClose, IsNearer, IsOver, IsWithin, excess_away, excess_over_notice, gap, is_nearer, is_over, is_within, notice, reach}
use Rattle.heliport_surfaces.specs.declared.rules.TheConstants.{NOTICE_RANGE, NOTICE_RISE, NOTICE_SLOPE}
use Rattle.heliport_surfaces.proofs.Corners.{IsWithin_below, IsWithin-IsClose}

pub within_out : (g : Gap) (d : ℕ) → IsWithin g d → is_within g d ≡ true
unfolding is_within
within_out g d h = at_most_out (excess_away g d) (reach g d) g.square h

pub within_in : (g : Gap) (d : ℕ) → is_within g d ≡ true → IsWithin g d
unfolding is_within
within_in g d h = at_most_in (excess_away g d) (reach g d) g.square h

nearer_out : (g : Gap) (d : ℕ) → IsNearer g d → is_nearer g d ≡ true
unfolding is_nearer
nearer_out g d h = below_out (excess_away g d) (reach g d) g.square h

nearer_in : (g : Gap) (d : ℕ) → is_nearer g d ≡ true → IsNearer g d
unfolding is_nearer
nearer_in g d h = below_in (excess_away g d) (reach g d) g.square h

over_out : (Is : ℕ → Type 0) (is : ℕ → Bool) → ((d : ℕ) → Is d → is d ≡ true) → (z top : ℤ) → IsOver Is z top → is_over is z top ≡ true
unfolding is_over
over_out Is is out z top h = both_true (le_out z top h.not_below) (out (NOTICE_SLOPE * unsigned_abs (top -ℤ z)) h.distance)

over_in : (Is : ℕ → Type 0) (is : ℕ → Bool) → ((d : ℕ) → is d ≡ true → Is d) → (z top : ℤ) → is_over is z top ≡ true → IsOver Is z top
unfolding is_over
over_in Is is in_ z top h =
    let d = NOTICE_SLOPE * unsigned_abs (top -ℤ z) in
    record { not_below = le_in z top (and_parts (int_le z top) (is d) h).0; distance = in_ d (and_parts (int_le z top) (is d) h).1 }

-- the tests compute what the slope says
pub notice_tests : (l : Landing) (o : Offset) → Tests (notice l o) (is_within (gap l o) NOTICE_RANGE) (is_over (is_nearer (gap l o)) l.z) (is_over (is_within (gap l o)) l.z)
notice_tests l o =
    let g = gap l o in
    record {
      covers_out = within_out g NOTICE_RANGE;
      covers_in = within_in g NOTICE_RANGE;
      above_out = over_out (IsNearer g) (is_nearer g) (nearer_out g) l.z;
      above_in = over_in (IsNearer g) (is_nearer g) (nearer_in g) l.z;
      at_out = over_out (IsWithin g) (is_within g) (within_out g) l.z;
      at_in = over_in (IsWithin g) (is_within g) (within_in g) l.z;
    }

-- what the function of tests computes is the excess
pub notice-IsExcess : (l : Landing) (o : Offset) (top : ℤ) → unsigned_abs l.z ≤ 2 ^ 18 → IsLevel top → IsExcess (notice l o) top (excess_over_notice l o top)
unfolding most_excess
notice-IsExcess l o top low level =
    let g = gap l o in
    excess_of-IsExcess (notice l o) (is_within g NOTICE_RANGE) (is_over (is_nearer g) l.z) (is_over (is_within g) l.z) most_excess top (notice_tests l o)
    (above_reaches l.z g top) (λ _ _ t r. omega (arith, ints, r.not_below, low, level.high))

-- over a point that it reaches it is at most 200 feet over the elevation
pub far_above : (z : ℤ) (g : Gap) (level : ℤ) → 0 < g.square → is_within g NOTICE_RANGE ≡ true → (z +ℤ NOTICE_RISE) <ℤ level → IsAboveNotice z g level
far_above z g level p h l = record {
  not_below = omega (arith, ints);
  distance = IsWithin_below g NOTICE_RANGE (NOTICE_SLOPE * unsigned_abs (level -ℤ z)) p (omega (arith, ints)) (within_in g NOTICE_RANGE h);
}

pub near_close : (g : Gap) → is_within g NOTICE_RANGE ≡ true → IsClose g NOTICE_RANGE
near_close g h = IsWithin-IsClose g NOTICE_RANGE (within_in g NOTICE_RANGE h)
