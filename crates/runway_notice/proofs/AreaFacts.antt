-- The least box of the discs about the ends of runways, and the points in it.
use Rattle.std.proofs.Common.{◌≡◌, inl, inr, ℕ, ◌+◌, ◌<◌, ℤ, List, length, take, get_or, Option, None, Some, arith, refl, sym, subst}
use Rattle.std.specs.List.{Contains}
use Rattle.std.specs.Option.{IsSomeAnd}
use Rattle.std.proofs.lemmas.Bool.{cases_Bool}
use Rattle.std.proofs.lemmas.Int.{ints, by_lt_z}
use Rattle.std.proofs.lemmas.List.Elements.{All-more, All-weaker}
use Rattle.grid_exact.specs.Area.{Has}
use Rattle.grid_exact.specs.declared.area.Area.{Area}
use Rattle.grid_exact.specs.declared.point.Point.{Point}
use Rattle.outline_boxes.specs.Boxes.{Encloses, HoldsBoth, IsLeastBox}
use Rattle.outline_boxes.proofs.More.{Encloses_through}
use Rattle.airfields.specs.Airfields.{IsHeldAirport}
use Rattle.airfields.specs.Runways.{IsProper}
use Rattle.airfields.specs.declared.airfield.Airport.{Airport}
use Rattle.airfields.specs.declared.runway.Runway.{Runway}
use Rattle.runway_notice.specs.Distances.{IsAtLeastRootOf}
use Rattle.runway_notice.specs.Nearest.{distance_of}
use Rattle.runway_notice.specs.NoticeAreas.{HoldsEnds, HoldsRunways, area_around}
use Rattle.runway_notice.specs.Notices.{notice_slope}
use Rattle.runway_notice.specs.Slopes.{range_of, sub_of}
use Rattle.runway_notice.specs.Surfaces.{IsInRange, is_in_range, slope_excess}
use Rattle.runway_notice.proofs.NearestFacts.{kept, nearest_is}
use Rattle.runway_notice.proofs.NoticeFacts.{all_none}
use Rattle.runway_notice.proofs.PastRange.{apart_above, apart_below, past_in_x, past_in_y}
use Rattle.runway_notice.proofs.SlopeFacts.{range_in}

ends_in_more : (a b : Area) (radius : ℤ) (r : Runway) → Encloses a b → HoldsEnds radius r b → HoldsEnds radius r a
ends_in_more a b radius r h k = record {
  first = Encloses_through a b (area_around r.end1.at radius) h k.first;
  second = Encloses_through a b (area_around r.end2.at radius) h k.second;
}

-- ---- a box that holds the ends of the first i runways, and lies in each that holds all
pub record IsLeastSoFar (radius : ℤ) (runways : List Runway) (i : ℕ) (box : Area) : Type 0 where
  pub holds : HoldsRunways radius (take i runways) box
  pub least : (other : Area) → HoldsRunways radius runways other → Encloses other box

pub least_at_first : (radius : ℤ) (runways : List Runway) (r : Runway) (box : Area) → 0 < length runways → r ≡ get_or runways 0 r → IsLeastBox (HoldsEnds radius r) box → IsLeastSoFar radius runways 0 box
least_at_first radius runways r box l e b = record {
  holds = λ k d m. absurd (omega arith);
  least = λ other h. b.least other (subst (λ (s : Runway). HoldsEnds radius s other) (sym e) (h 0 r l));
}

pub least_with_next : (radius : ℤ) (runways : List Runway) (i : ℕ) (r : Runway) (box ends joined : Area) → i < length runways → r ≡ get_or runways i r → IsLeastBox (HoldsEnds radius r) ends →
    IsLeastSoFar radius runways i box → IsLeastBox (HoldsBoth box ends) joined → IsLeastSoFar radius runways (i + 1) joined
least_with_next radius runways i r box ends joined l e b h j = record {
  holds = All-more (λ s. HoldsEnds radius s joined) runways i r l
      (All-weaker (λ s. HoldsEnds radius s box) (λ s. HoldsEnds radius s joined) (λ s k. ends_in_more joined box radius s j.holds.first k) (take i runways) h.holds)
      (subst (λ (s : Runway). HoldsEnds radius s joined) e (ends_in_more joined ends radius r j.holds.second b.holds));
  least = λ other k. j.least other (record {
    first = h.least other k;
    second = b.least other (subst (λ (s : Runway). HoldsEnds radius s other) (sym e) (k i r l));
  });
}

-- ---- a point within the range of a runway is in each box that holds its ends
ends_has : (r : Runway) (x : Point) (range : ℤ) (box : Area) → IsProper r → HoldsEnds range r box → IsAtLeastRootOf (distance_of x r) range → Has box x
ends_has r x range box proper h w =
    let p = r.end1.at in
    let q = r.end2.at in
    let n = w.not_negative in
    record {
      west = by_lt_z x.x box.x0 (λ l. absurd (past_in_x x r range proper (apart_below x.x p.x q.x range n (omega (arith, ints, l, h.first.west)) (omega (arith, ints, l, h.second.west))) w)) (λ l. l);
      east = by_lt_z box.x1 x.x (λ l. absurd (past_in_x x r range proper (apart_above x.x p.x q.x range n (omega (arith, ints, l, h.first.east)) (omega (arith, ints, l, h.second.east))) w)) (λ l. l);
      south = by_lt_z x.y box.y0 (λ l. absurd (past_in_y x r range proper (apart_below x.y p.y q.y range n (omega (arith, ints, l, h.first.south)) (omega (arith, ints, l, h.second.south))) w)) (λ l. l);
      north = by_lt_z box.y1 x.y (λ l. absurd (past_in_y x r range proper (apart_above x.y p.y q.y range n (omega (arith, ints, l, h.first.north)) (omega (arith, ints, l, h.second.north))) w)) (λ l. l);
    }

-- what the slope from a runway of the airport covers is in the area
abbrev pub CoverSlopes : Airport → Option Area → Type 0
CoverSlopes a area = (r : Runway) (x : Point) → Contains a.runways r → IsInRange a r x → IsSomeAnd area (λ box. Has box x)

pub area_covers : (a : Airport) (box : Area) → IsHeldAirport a → IsLeastBox (HoldsRunways (range_of (sub_of a.runways)) a.runways) box → CoverSlopes a (Some box)
area_covers a box held b r x c h =
    ends_has r x (range_of (sub_of a.runways)) box (kept IsProper a.runways r held.proper c) (kept (λ s. HoldsEnds (range_of (sub_of a.runways)) s box) a.runways r b.holds c) h.within

-- and so no top is above a slope at a point outside of it
not_in_range : (a : Airport) (r : Runway) (x : Point) (top : ℤ) → (IsInRange a r x → ⊥) → slope_excess a r x top ≡ None
unfolding slope_excess
not_in_range a r x top h = elim (cases_Bool (is_in_range a r x)) [
  | inl t ↦ absurd (h (range_in a r x t))
  | inr f ↦ rw f refl
]

pub area_skips : (a : Airport) (area : Option Area) → CoverSlopes a area → (x : Point) (top : ℤ) → ¬ IsSomeAnd area (λ box. Has box x) → notice_slope a x top ≡ None
area_skips a area covers x top h = all_none a x top (λ r e. not_in_range a r x top (λ i. h (covers r x (nearest_is a.runways x r e).one_of i)))

-- ---- runways as they are listed
pub none_listed : (xs ys : List Runway) (r : Runway) → length xs ≡ 0 → xs ≡ ys → Contains ys r → ⊥
none_listed xs ys r z e (k, l, h) = (let m : k < length xs = rw e l in omega (arith, z, m))

pub same_box : (radius range : ℤ) (xs ys : List Runway) (box : Area) → radius ≡ range → xs ≡ ys → IsLeastBox (HoldsRunways radius xs) box → IsLeastBox (HoldsRunways range ys) box
same_box radius range xs ys box p q h = rw (p, q) at h
