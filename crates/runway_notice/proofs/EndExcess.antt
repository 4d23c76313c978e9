-- The excess over the slope from the end of a runway that is nearest to a point is that over the slope from the runway.
use Rattle.std.proofs.Common.{[], ◌∷◌, ◌≡◌, ◌↔◌, ◌∙◌, ℕ, ◌<◌, ℤ, pos, ◌-ℤ◌, ◌<ℤ◌, Option, Some, None, true, arith, refl, sym, ap, subst}
use Rattle.std.proofs.lemmas.Int.{ints}
use Rattle.grid_exact.specs.Excess.{IsExcess, Surface}
use Rattle.grid_exact.specs.Level.{IsLevel}
use Rattle.grid_exact.specs.Lines.{square}
use Rattle.grid_exact.specs.Vector.{along_of, length_of}
use Rattle.grid_exact.specs.declared.point.Point.{Point}
use Rattle.grid_exact.proofs.ExcessLemmas.{IsExcess-unique}
use Rattle.airfields.specs.Categories.{is_described}
use Rattle.airfields.specs.Runways.{IsProper}
use Rattle.airfields.specs.declared.airfield.Airport.{Airport}
use Rattle.airfields.specs.declared.runway.Runway.{Runway}
use Rattle.airfields.specs.declared.runway.RunwayEnd.{RunwayEnd}
use Rattle.runway_lines.specs.Profiles.{profile_of}
use Rattle.runway_notice.specs.Distances.{Fraction, IsAtLeastRootOf, IsAboveRootOf}
use Rattle.runway_notice.specs.EndSlopes.{end_surface, square_between, whole_fraction}
use Rattle.runway_notice.specs.LoneRunways.{IsLoneOf, IsReady}
use Rattle.runway_notice.specs.Nearest.{distance_of, elevation_of, offset_of}
use Rattle.runway_notice.specs.ShortEnds.{IsEnd}
use Rattle.runway_notice.specs.Slopes.{range_of, sub_of}
use Rattle.runway_notice.specs.Surfaces.{IsInRange, run_to, slope_excess, slope_surface}
use Rattle.runway_notice.specs.declared.short_end.ShortEnd.{ShortEnd}
use Rattle.runway_notice.specs.declared.slope.Sub.{Sub}
use Rattle.runway_notice.proofs.CandidateFacts.{before_start, past_end}
use Rattle.runway_notice.proofs.DistanceFacts.{profile_some}
use Rattle.runway_notice.proofs.EndFacts.{above_whole, at_least_whole, beyond_end, beyond_start, lagrange_from, lagrange_squares, times}
use Rattle.runway_notice.proofs.SlopeFacts.{slope_excess_is}

-- ---- the distance
abbrev divided : ℕ → ℕ → Fraction
divided part n = record { part = part; whole = n }

start_distance : (x : Point) (r : Runway) → (offset_of x r).along <ℤ pos 0 → distance_of x r ≡ times (square_between r.end1.at x) (square (profile_of r).line)
unfolding profile_of
start_distance x r l =
    let ex = x.x -ℤ r.end1.at.x in
    let ey = x.y -ℤ r.end1.at.y in
    let vx = r.end2.at.x -ℤ r.end1.at.x in
    let vy = r.end2.at.y -ℤ r.end1.at.y in
    ap (λ k. divided k (length_of vx vy)) (rw (beyond_start (along_of ex ey vx vy) (length_of vx vy) l) (lagrange_squares ex ey vx vy))

from_end : (x p q : ℤ) → (x -ℤ p) -ℤ (q -ℤ p) ≡ x -ℤ q
from_end x p q = omega (arith, ints)

end_distance : (x : Point) (r : Runway) → pos (square (profile_of r).line) <ℤ (offset_of x r).along → distance_of x r ≡ times (square_between r.end2.at x) (square (profile_of r).line)
unfolding profile_of
end_distance x r l =
    let ex = x.x -ℤ r.end1.at.x in
    let ey = x.y -ℤ r.end1.at.y in
    let vx = r.end2.at.x -ℤ r.end1.at.x in
    let vy = r.end2.at.y -ℤ r.end1.at.y in
    let e = rw (from_end x.x r.end1.at.x r.end2.at.x, from_end x.y r.end1.at.y r.end2.at.y) at (lagrange_from ex ey vx vy) in
    ap (λ k. divided k (length_of vx vy)) (rw (beyond_end (along_of ex ey vx vy) (length_of vx vy) l) e)

-- ---- the elevation
start_base : (x : Point) (r : Runway) → IsProper r → (offset_of x r).along <ℤ pos 0 → r.end1.z ≡ elevation_of x r
unfolding profile_of
start_base x r p l =
    let o = offset_of x r in
    before_start r.end1.z (r.end2.z -ℤ r.end1.z) o.along o.square (profile_some r p.within_length) l

end_base : (x : Point) (r : Runway) → IsProper r → pos (square (profile_of r).line) <ℤ (offset_of x r).along → r.end2.z ≡ elevation_of x r
unfolding profile_of
end_base x r p l =
    let o = offset_of x r in
    past_end r.end1.z r.end2.z o.along o.square (profile_some r p.within_length) l

-- ---- the surface
same_excess : (s t : Surface) (top : ℤ) (e : Option ℕ) → s.Covers ↔ t.Covers → ((z : ℤ) → s.Above z ↔ t.Above z) → ((z : ℤ) → s.AtOrAbove z ↔ t.AtOrAbove z) → IsExcess s top e → IsExcess t top e
same_excess s t top None c a b h = λ p. h (c.1 p.0, (a top).1 p.1)
same_excess s t top (Some e) c a b h = record {
  covers = c.0 h.covers;
  above = (a top).0 h.above;
  at_or_above = (b (top -ℤ pos e)).0 h.at_or_above;
  greatest = λ d k. h.greatest d ((b (top -ℤ pos d)).1 k);
}

at_least : (x : Point) (r : Runway) (q n : ℕ) (b : ℤ) → 0 < n → distance_of x r ≡ times q n → IsAtLeastRootOf (whole_fraction q) b ↔ IsAtLeastRootOf (distance_of x r) b
at_least x r q n b p e = subst (λ (f : Fraction). IsAtLeastRootOf (whole_fraction q) b ↔ IsAtLeastRootOf f b) (sym e) (at_least_whole q n b p)

above : (x : Point) (r : Runway) (q n : ℕ) (b : ℤ) → 0 < n → distance_of x r ≡ times q n → IsAboveRootOf (whole_fraction q) b ↔ IsAboveRootOf (distance_of x r) b
above x r q n b p e = subst (λ (f : Fraction). IsAboveRootOf (whole_fraction q) b ↔ IsAboveRootOf f b) (sym e) (above_whole q n b p)

in_range : (a : Airport) (r : Runway) (x : Point) (q : ℕ) → is_described a.category ≡ true → IsAtLeastRootOf (whole_fraction q) (range_of (sub_of a.runways)) ↔ IsAtLeastRootOf (distance_of x r) (range_of (sub_of a.runways)) →
    IsAtLeastRootOf (whole_fraction q) (range_of (sub_of a.runways)) ↔ IsInRange a r x
in_range a r x q d h = (λ k. record { described = d; within = h.0 k }, λ k. h.1 k.within)

lone_sub : (a : Airport) (r : Runway) (sub : Sub) → sub ≡ sub_of (r ∷ []) → a.runways ≡ (r ∷ []) → sub ≡ sub_of a.runways
lone_sub a r sub e h = e ∙ sym (ap sub_of h)

of_runway : (a : Airport) (r : Runway) (x : Point) (top : ℤ) (sub : Sub) (base : ℤ) (q : ℕ) (e : Option ℕ) → IsProper r → IsLoneOf a r → sub ≡ sub_of (r ∷ []) → IsLevel top →
    distance_of x r ≡ times q (square (profile_of r).line) → base ≡ elevation_of x r → IsExcess (end_surface sub base q) top e → e ≡ slope_excess a r x top
of_runway a r x top sub base q e proper lone s level d b h =
    let n = square (profile_of r).line in
    let some = profile_some r proper.within_length in
    let k = subst (λ (y : Sub). IsExcess (end_surface y base q) top e) (lone_sub a r sub s lone.alone) h in
    let l = subst (λ (y : ℤ). IsExcess (end_surface (sub_of a.runways) y q) top e) b k in
    IsExcess-unique (slope_surface a r x) top e (slope_excess a r x top)
    (same_excess (end_surface (sub_of a.runways) (elevation_of x r) q) (slope_surface a r x) top e (in_range a r x q lone.described (at_least x r q n (range_of (sub_of a.runways)) some d))
    (λ z. above x r q n (run_to a r x z) some d) (λ z. at_least x r q n (run_to a r x z) some d) l)
    (slope_excess_is a r x top proper level)

-- ---- before the first end and past the second
start_excess : (a : Airport) (r : Runway) (x : Point) (top : ℤ) (sub : Sub) (q : ℕ) (e : Option ℕ) → IsProper r → IsLoneOf a r → sub ≡ sub_of (r ∷ []) → IsLevel top →
    (offset_of x r).along <ℤ pos 0 → q ≡ square_between r.end1.at x → IsExcess (end_surface sub r.end1.z q) top e → e ≡ slope_excess a r x top
start_excess a r x top sub q e proper lone s level l k h =
    of_runway a r x top sub r.end1.z q e proper lone s level (start_distance x r l ∙ ap (λ y. times y (square (profile_of r).line)) (sym k)) (start_base x r proper l) h

end_excess : (a : Airport) (r : Runway) (x : Point) (top : ℤ) (sub : Sub) (q : ℕ) (e : Option ℕ) → IsProper r → IsLoneOf a r → sub ≡ sub_of (r ∷ []) → IsLevel top →
    pos (square (profile_of r).line) <ℤ (offset_of x r).along → q ≡ square_between r.end2.at x → IsExcess (end_surface sub r.end2.z q) top e → e ≡ slope_excess a r x top
end_excess a r x top sub q e proper lone s level l k h =
    of_runway a r x top sub r.end2.z q e proper lone s level (end_distance x r l ∙ ap (λ y. times y (square (profile_of r).line)) (sym k)) (end_base x r proper l) h

-- ---- and of a runway whose ends are kept in little room
-- how far a point lies along the line between the ends, and how far from one of them, squared
abbrev between : ShortEnd → ShortEnd → Point → ℤ
between p q x = along_of (x.x -ℤ p.x) (x.y -ℤ p.y) (q.x -ℤ p.x) (q.y -ℤ p.y)

abbrev away : ShortEnd → Point → ℕ
away p x = length_of (x.x -ℤ p.x) (x.y -ℤ p.y)

between_is : (r : Runway) (x : Point) (p q : ShortEnd) → IsEnd r.end1 p → IsEnd r.end2 q → between p q x ≡ (offset_of x r).along
unfolding profile_of
between_is r x p q h k = rw (h.x_is, h.y_is, k.x_is, k.y_is) refl

away_is : (e : RunwayEnd) (x : Point) (p : ShortEnd) → IsEnd e p → away p x ≡ square_between e.at x
away_is e x p h = rw (h.x_is, h.y_is) refl

pub kept_start : (a : Airport) (r s : Runway) (x : Point) (top m b n : ℤ) (p q : ShortEnd) (sub : Sub) (d : ℕ) (e : Option ℕ) → r ≡ s → IsReady r p q n sub → IsLoneOf a s → IsLevel top →
    m ≡ between p q x → m <ℤ pos 0 → b ≡ p.z → d ≡ away p x → IsExcess (end_surface sub b d) top e → e ≡ slope_excess a s x top
kept_start a r s x top m b n p q sub d e same ready lone level at l base k h =
    let at_r : m ≡ (offset_of x r).along = at ∙ between_is r x p q ready.first_is ready.second_is in
    let before : (offset_of x r).along <ℤ pos 0 = subst (λ (y : ℤ). y <ℤ pos 0) at_r l in
    let over = subst (λ (y : ℤ). IsExcess (end_surface sub y d) top e) (base ∙ ready.first_is.z_is) h in
    start_excess a r x top sub d e ready.proper (subst (λ (y : Runway). IsLoneOf a y) (sym same) lone) ready.sub_is level before (k ∙ away_is r.end1 x p ready.first_is) over
    ∙ ap (λ (y : Runway). slope_excess a y x top) same

pub kept_end : (a : Airport) (r s : Runway) (x : Point) (top m b n : ℤ) (p q : ShortEnd) (sub : Sub) (d : ℕ) (e : Option ℕ) → r ≡ s → IsReady r p q n sub → IsLoneOf a s → IsLevel top →
    m ≡ between p q x → n <ℤ m → b ≡ q.z → d ≡ away q x → IsExcess (end_surface sub b d) top e → e ≡ slope_excess a s x top
kept_end a r s x top m b n p q sub d e same ready lone level at l base k h =
    let at_r : m ≡ (offset_of x r).along = at ∙ between_is r x p q ready.first_is ready.second_is in
    let past : pos (square (profile_of r).line) <ℤ (offset_of x r).along = subst (λ (y : ℤ). y <ℤ (offset_of x r).along) ready.square_is (subst (λ (y : ℤ). n <ℤ y) at_r l) in
    let over = subst (λ (y : ℤ). IsExcess (end_surface sub y d) top e) (base ∙ ready.second_is.z_is) h in
    end_excess a r x top sub d e ready.proper (subst (λ (y : Runway). IsLoneOf a y) (sym same) lone) ready.sub_is level past (k ∙ away_is r.end2 x q ready.second_is) over
    ∙ ap (λ (y : Runway). slope_excess a y x top) same
