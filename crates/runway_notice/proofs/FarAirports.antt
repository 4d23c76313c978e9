-- Points that are far from an airport.
use Rattle.std.proofs.Common.{◌≡◌, inl, inr, ◌<◌, ◌≤◌, ℤ, ◌-ℤ◌, ◌≤ℤ◌, arith, Some, None, true}
use Rattle.std.specs.Prelude.{nat_lt}
use Rattle.std.specs.List.{Contains}
use Rattle.std.proofs.lemmas.Bool.{ltb-true, or_cases}
use Rattle.std.proofs.lemmas.Int.{ints, by_lt_z}
use Rattle.grid_exact.specs.Level.{IsLevel}
use Rattle.grid_exact.proofs.ExcessLemmas.{IsExcess-unique}
use Rattle.grid_exact.specs.declared.point.Point.{Point}
use Rattle.airfields.specs.Airfields.{IsHeldAirport}
use Rattle.airfields.specs.Runways.{HasNearEnds, IsProper, distance_apart}
use Rattle.airfields.specs.declared.limits.TheConstants.{RUNWAY_REACH}
use Rattle.airfields.specs.declared.airfield.Airport.{Airport}
use Rattle.airfields.specs.declared.runway.Runway.{Runway}
use Rattle.runway_notice.specs.Areas.{is_far}
use Rattle.runway_notice.specs.Distances.{IsAtLeastRootOf}
use Rattle.runway_notice.specs.Laws.{at_least_more}
use Rattle.runway_notice.specs.Nearest.{distance_of, nearest}
use Rattle.runway_notice.specs.Notices.{notice_slope}
use Rattle.runway_notice.specs.Slopes.{range_of, sub_of}
use Rattle.runway_notice.specs.Surfaces.{IsInRange, slope_excess, slope_surface}
use Rattle.runway_notice.specs.declared.slope.Sub.{Sub}
use Rattle.runway_notice.specs.declared.slope.Sub.TheVariants.{B1, B2}
use Rattle.runway_notice.proofs.PastRange.{AreApart, apart_above, apart_below, past, past_in_x, past_in_y}
use Rattle.runway_notice.specs.declared.notice.TheConstants.{SLOPE_REACH}
use Rattle.runway_notice.specs.declared.slope.TheConstants.{RANGE_B1}
use Rattle.runway_notice.proofs.NearestFacts.{kept, nearest_is}
use Rattle.runway_notice.proofs.NoticeFacts.{all_none}
use Rattle.runway_notice.proofs.SlopeFacts.{slope_excess_is}

are_apart : (x c p q : ℤ) → SLOPE_REACH < distance_apart x c → distance_apart p c ≤ RUNWAY_REACH → distance_apart q c ≤ RUNWAY_REACH → AreApart (past RANGE_B1) (x -ℤ p) (x -ℤ p -ℤ (q -ℤ p))
are_apart x c p q far near_p near_q =
    by_lt_z x c
    (λ l. apart_below x p q RANGE_B1 (omega (arith, ints)) (omega (arith, ints, far, near_p, l)) (omega (arith, ints, far, near_q, l)))
    (λ l. apart_above x p q RANGE_B1 (omega (arith, ints)) (omega (arith, ints, far, near_p, l)) (omega (arith, ints, far, near_q, l)))

-- no range comes to a point that is far
far_runway : (arp x : Point) (r : Runway) → IsProper r → HasNearEnds arp r → is_far arp x ≡ true → IsAtLeastRootOf (distance_of x r) RANGE_B1 → ⊥
far_runway arp x r proper near far h =
    elim (or_cases (nat_lt SLOPE_REACH (distance_apart x.x arp.x)) (nat_lt SLOPE_REACH (distance_apart x.y arp.y)) far) [
      | inl t ↦ past_in_x x r RANGE_B1 proper (are_apart x.x arp.x r.end1.at.x r.end2.at.x (ltb-true SLOPE_REACH (distance_apart x.x arp.x) t) near.end1.x near.end2.x) h
      | inr t ↦ past_in_y x r RANGE_B1 proper (are_apart x.y arp.y r.end1.at.y r.end2.at.y (ltb-true SLOPE_REACH (distance_apart x.y arp.y) t) near.end1.y near.end2.y) h
    ]

range_most : (s : Sub) → range_of s ≤ℤ RANGE_B1
range_most B1 = omega (arith, ints)
range_most B2 = omega (arith, ints)

out_of_range : (a : Airport) (r : Runway) (x : Point) → IsHeldAirport a → Contains a.runways r → is_far a.arp x ≡ true → IsInRange a r x → ⊥
out_of_range a r x held c far h =
    far_runway a.arp x r (kept IsProper a.runways r held.proper c) (kept (HasNearEnds a.arp) a.runways r held.near c) far
    (at_least_more (distance_of x r) (range_of (sub_of a.runways)) RANGE_B1 (range_most (sub_of a.runways)) h.within)

-- no notice by a slope where the point is far
pub far_value : (a : Airport) (x : Point) (top : ℤ) → IsHeldAirport a → IsLevel top → is_far a.arp x ≡ true → notice_slope a x top ≡ None
far_value a x top held level far = all_none a x top none
  where
    none : (r : Runway) → nearest a.runways x ≡ Some r → slope_excess a r x top ≡ None
    none r e =
        let n = nearest_is a.runways x r e in
        let proper = kept IsProper a.runways r held.proper n.one_of in
        IsExcess-unique (slope_surface a r x) top (slope_excess a r x top) None (slope_excess_is a r x top proper level) (λ p. out_of_range a r x held n.one_of far p.0)
