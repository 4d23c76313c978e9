-- The box of the disc of 5.99 nautical miles about a reference point, and the sites in it.
use Rattle.std.proofs.Common.{◌≡◌, inl, inr, ◌+◌, ◌*◌, ◌≤◌, ◌<◌, ℤ, pos, ◌+ℤ◌, ◌-ℤ◌, ◌*ℤ◌, neg_ℤ, unsigned_abs, arith, refl, Option, None, Bool, true, false, ◌↔◌, IsTrue}
use Rattle.std.specs.Option.{IsSomeAnd}
use Rattle.std.proofs.Math.Nat.{mul-le-mul}
use Rattle.std.proofs.lemmas.Bool.{cases_Bool}
use Rattle.std.proofs.lemmas.Int.{ints, by_lt_z}
use Rattle.grid_exact.specs.Area.{Has}
use Rattle.grid_exact.specs.Root.{AtLeastRoot}
use Rattle.grid_exact.specs.Vector.{length_of}
use Rattle.grid_exact.specs.declared.area.Area.{Area}
use Rattle.grid_exact.specs.declared.point.Point.{Point}
use Rattle.outline_boxes.specs.Boxes.{IsLeastBox}
use Rattle.airfields.specs.Sites.{Site}
use Rattle.airfields.specs.declared.airfield.Airport.{Airport}
use Rattle.height_rules.specs.declared.limit.TheConstants.{NAUTICAL_MILE}
use Rattle.height_rules.specs.declared.near_airport.TheConstants.{OUTER_HUNDREDTHS}
use Rattle.height_rules.specs.declared.area.TheConstants.{OUTER_REACH}
use Rattle.height_rules.specs.NearAirport.{IsNear, near_excess, is_near}
use Rattle.height_rules.specs.NearAreas.{HasLimit, HoldsDisc}
use Rattle.height_rules.proofs.NearFacts.{near_in}

-- ---- a vector within 5.99 nautical miles, and the longest whole ones along the axes
abbrev IsShort : ℤ → ℤ → Type 0
IsShort dx dy = AtLeastRoot (OUTER_HUNDREDTHS *ℤ NAUTICAL_MILE) (pos 100) (length_of dx dy)

short_x : (dx dy : ℤ) → IsShort dx dy → unsigned_abs OUTER_REACH < unsigned_abs dx → ⊥
short_x dx dy h l =
    let m : (unsigned_abs OUTER_REACH + 1) * (unsigned_abs OUTER_REACH + 1) ≤ unsigned_abs dx * unsigned_abs dx = mul-le-mul l l in
    omega (arith, ints, h.at_least, m)

short_y : (dx dy : ℤ) → IsShort dx dy → unsigned_abs OUTER_REACH < unsigned_abs dy → ⊥
short_y dx dy h l =
    let m : (unsigned_abs OUTER_REACH + 1) * (unsigned_abs OUTER_REACH + 1) ≤ unsigned_abs dy * unsigned_abs dy = mul-le-mul l l in
    omega (arith, ints, h.at_least, m)

longest : (dx dy : ℤ) → unsigned_abs dx * unsigned_abs dx + unsigned_abs dy * unsigned_abs dy ≡ unsigned_abs OUTER_REACH * unsigned_abs OUTER_REACH → IsShort dx dy
longest dx dy e = record { at_least = omega (arith, ints, e) }

longest_x : (x r y : ℤ) → unsigned_abs r ≡ unsigned_abs OUTER_REACH → IsShort (x +ℤ r -ℤ x) (y -ℤ y)
longest_x x r y e =
    let a : x +ℤ r -ℤ x ≡ r = omega (arith, ints) in
    let b : y -ℤ y ≡ pos 0 = omega (arith, ints) in
    rw (a, b) (longest r (pos 0) (rw e (omega arith)))

longest_y : (x y r : ℤ) → unsigned_abs r ≡ unsigned_abs OUTER_REACH → IsShort (x -ℤ x) (y +ℤ r -ℤ y)
longest_y x y r e =
    let a : y +ℤ r -ℤ y ≡ r = omega (arith, ints) in
    let b : x -ℤ x ≡ pos 0 = omega (arith, ints) in
    rw (a, b) (longest (pos 0) r (rw e (omega arith)))

-- ---- the box
abbrev pub reach_box : Point → Area
reach_box arp = record {
  x0 = arp.x -ℤ OUTER_REACH;
  y0 = arp.y -ℤ OUTER_REACH;
  x1 = arp.x +ℤ OUTER_REACH;
  y1 = arp.y +ℤ OUTER_REACH;
}

reach_holds : (arp : Point) → HoldsDisc arp (reach_box arp)
reach_holds arp = record {
  west = λ x y h. by_lt_z x (arp.x -ℤ OUTER_REACH) (λ l. absurd (short_x (x -ℤ arp.x) (y -ℤ arp.y) h (omega (arith, ints, l)))) (λ l. l);
  south = λ x y h. by_lt_z y (arp.y -ℤ OUTER_REACH) (λ l. absurd (short_y (x -ℤ arp.x) (y -ℤ arp.y) h (omega (arith, ints, l)))) (λ l. l);
  east = λ x y h. by_lt_z (arp.x +ℤ OUTER_REACH) x (λ l. absurd (short_x (x -ℤ arp.x) (y -ℤ arp.y) h (omega (arith, ints, l)))) (λ l. l);
  north = λ x y h. by_lt_z (arp.y +ℤ OUTER_REACH) y (λ l. absurd (short_y (x -ℤ arp.x) (y -ℤ arp.y) h (omega (arith, ints, l)))) (λ l. l);
}

pub reach_least : (arp : Point) → IsLeastBox (HoldsDisc arp) (reach_box arp)
reach_least arp =
    let r = OUTER_REACH in
    let s = neg_ℤ OUTER_REACH in
    record {
      holds = reach_holds arp;
      least = λ other h. record {
        west = h.west (arp.x +ℤ s) arp.y (longest_x arp.x s arp.y refl);
        south = h.south arp.x (arp.y +ℤ s) (longest_y arp.x arp.y s refl);
        east = h.east (arp.x +ℤ r) arp.y (longest_x arp.x r arp.y refl);
        north = h.north arp.x (arp.y +ℤ r) (longest_y arp.x arp.y r refl);
      };
    }

-- ---- sites
pub near_has : (a : Airport) (box : Area) (s : Site) → IsLeastBox (HoldsDisc a.arp) box → IsNear a s → Has box s.at
near_has a box s h n = record {
  west = h.holds.west s.at.x s.at.y n.within;
  east = h.holds.east s.at.x s.at.y n.within;
  south = h.holds.south s.at.x s.at.y n.within;
  north = h.holds.north s.at.x s.at.y n.within;
}

-- and no site is covered by the limit of an airport that has none
pub not_limited : (a : Airport) (s : Site) (limited : Bool) → (IsTrue limited ↔ HasLimit a) → limited ≡ false → IsNear a s → ⊥
not_limited a s limited same e n = let t : limited ≡ true = same.1 (record { described = n.described; long = n.long }) in cc

-- where each site that the limit covers is in the area, none outside of it exceeds the limit
pub skipped : (a : Airport) (area : Option Area) → ((s : Site) → IsNear a s → IsSomeAnd area (λ box. Has box s.at)) → (s : Site) → ¬ IsSomeAnd area (λ box. Has box s.at) → near_excess a s ≡ None
unfolding near_excess
skipped a area covers s h = elim (cases_Bool (is_near a s)) [
  | inl t ↦ absurd (h (covers s (near_in a s t)))
  | inr f ↦ rw f refl
]
