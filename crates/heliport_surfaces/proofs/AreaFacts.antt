-- The outlines of the surfaces of a heliport, and what they cover.
use Rattle.std.proofs.Common.{◌≡◌, ◌+◌, ◌*◌, ◌<◌, ℕ, ℤ, pos, ◌+ℤ◌, ◌-ℤ◌, ◌*ℤ◌, ◌≤ℤ◌, neg_ℤ, unsigned_abs, arith, refl, subst, int_le, int_lt, Option, Some, None}
use Rattle.std.proofs.lemmas.Bool.{and_parts}
use Rattle.std.proofs.lemmas.Int.{ints}
use Rattle.grid_exact.specs.Area.{Has}
use Rattle.grid_exact.specs.Excess.{IsExcess, Surface, is_at_most_root}
use Rattle.grid_exact.specs.Level.{IsLevel}
use Rattle.grid_exact.specs.Lines.{IsSquare, Offset, offset, square}
use Rattle.grid_exact.specs.Root.{AtMostRoot}
use Rattle.grid_exact.specs.declared.point.Point.{Point}
use Rattle.grid_exact.specs.declared.area.Area.{Area}
use Rattle.grid_exact.proofs.IntLaws.{abs_neg, mul-sub}
use Rattle.grid_exact.proofs.TestFacts.{at_most_in, le_in, lt_in}
use Rattle.outline_boxes.specs.Rectangles.{HasRectangleWithin, OnRectangle}
use Rattle.outline_boxes.specs.Trapezoids.{OnTrapezoid}
use Rattle.outline_boxes.specs.Boxes.{shrunk}
use Rattle.outline_boxes.proofs.BoxFacts.{end_down, end_up}
use Rattle.outline_boxes.proofs.Corners.{far_bounds, start_bounds}
use Rattle.outline_boxes.proofs.Covers.{band_east, lies_so, widening}
use Rattle.airfields.specs.Airfields.{IsHeldHeliport}
use Rattle.airfields.specs.declared.airfield.Heliport.{Heliport}
use Rattle.heliport_surfaces.specs.declared.areas.PadAreas.{PadAreas}
use Rattle.heliport_surfaces.specs.declared.parts.PadEnd.TheVariants.{One, Two}
use Rattle.heliport_surfaces.specs.declared.parts.Beside.TheVariants.{Primary, ApproachOne, ApproachTwo}
use Rattle.heliport_surfaces.specs.Areas.{CoverPad, SkipPad, approach_outline, approach_side_outline, landing_outline, landing_side_outline}
use Rattle.heliport_surfaces.specs.Approaches.{Approach, approach_place}
use Rattle.heliport_surfaces.specs.Landings.{Landing, primary_place}
use Rattle.heliport_surfaces.specs.Notices.{IsWithin, gap}
use Rattle.heliport_surfaces.proofs.NoticeReach.{gap_reach, nearest}
use Rattle.heliport_surfaces.specs.Places.{IsCovered, IsCoveredBeside}
use Rattle.heliport_surfaces.specs.Pads.{pad_primary, pad_approach, pad_transition, pad_notice}
use Rattle.heliport_surfaces.proofs.PadFacts.{pad_primary-IsExcess, pad_approach-IsExcess, pad_transition-IsExcess, pad_notice-IsExcess}

pub primary_on : (l : Landing) (o : Offset) → IsCovered (primary_place l o) → OnRectangle (landing_outline l) o
unfolding primary_place
primary_on l o h =
    let t = and_parts (int_le (pos 0) o.along) (int_le o.along (pos o.square)) h.along in
    record { past_start = le_in (pos 0) o.along t.0; before_end = le_in o.along (pos o.square) t.1; not_beside = h.not_outside }

pub primary_side_on : (l : Landing) (o : Offset) → IsCoveredBeside (primary_place l o) → OnRectangle (landing_side_outline l) o
unfolding primary_place
primary_side_on l o h =
    let t = and_parts (int_le (pos 0) o.along) (int_le o.along (pos o.square)) h.along in
    let e : pos o.aside ≡ pos 1 *ℤ pos o.aside = omega (arith, ints) in
    record { past_start = le_in (pos 0) o.along t.0; before_end = le_in o.along (pos o.square) t.1; not_beside = rw e at h.not_far }

pub approach_on : (a : Approach) (o : Offset) → IsCovered (approach_place a o) → OnTrapezoid (approach_outline a) o
unfolding approach_place
approach_on a o h =
    let t = and_parts (int_lt (pos 0) o.along) (is_at_most_root o.along (pos 40000) o.square) h.along in
    let e : pos 40000 *ℤ pos 5000 -ℤ pos 40000 *ℤ a.width ≡ (pos 5000 -ℤ a.width) *ℤ pos 40000 = omega (arith, ints) in
    record {
      ahead = omega (arith, ints, lt_in (pos 0) o.along t.0);
      not_past = at_most_in o.along (pos 40000) o.square t.1;
      not_beside = widening (pos 40000) (pos 80000) (pos o.aside) (pos 5000 -ℤ a.width) (pos 40000 *ℤ a.width) (pos 40000 *ℤ pos 5000) o.along o.square (omega (arith, ints)) e h.not_outside;
    }

pub approach_side_on : (a : Approach) (o : Offset) → IsCoveredBeside (approach_place a o) → OnTrapezoid (approach_side_outline a) o
unfolding approach_place
approach_side_on a o h =
    let t = and_parts (int_lt (pos 0) o.along) (is_at_most_root o.along (pos 40000) o.square) h.along in
    let e : pos 2500 -ℤ pos 2500 ≡ pos 0 *ℤ pos 40000 = omega (arith, ints) in
    let s : pos o.aside ≡ pos 1 *ℤ pos o.aside -ℤ pos 0 *ℤ o.along = omega (arith, ints) in
    record {
      ahead = omega (arith, ints, lt_in (pos 0) o.along t.0);
      not_past = at_most_in o.along (pos 40000) o.square t.1;
      not_beside = widening (pos 40000) (pos 1) (pos o.aside) (pos 0) (pos 2500) (pos 2500) o.along o.square (omega (arith, ints)) e (rw s at h.not_far);
    }

-- ---- the slope of notice, in one direction: z and y are past the corners at both ends of the axis
notice_side : (l : Landing) (o : Offset) (f v z y : ℤ) (b : ℕ) → 0 < o.square → o.square ≡ unsigned_abs f * unsigned_abs f + b * b → pos 0 ≤ℤ l.width → IsWithin (gap l o) 50000 →
    (pos o.square *ℤ v) ≤ℤ (o.along *ℤ f +ℤ pos (o.aside * b)) → AtMostRoot (l.width *ℤ pos b) (pos 2 *ℤ z) o.square → AtMostRoot (l.width *ℤ pos b) (pos 2 *ℤ y) o.square → y ≡ z -ℤ f → v ≤ℤ (z +ℤ pos 50000)
notice_side l o f v z y b n0 sq w0 within big start end s =
    let g = gap l o in
    let n = o.square in
    let near = nearest o.along n f in
    let c : ℤ = pos (g.beyond * unsigned_abs f + o.aside * b) -ℤ pos (50000 * n) in
    let ew : pos (unsigned_abs l.width) ≡ l.width = omega (arith, ints, w0) in
    let side : AtMostRoot (pos 2 *ℤ c) (l.width *ℤ pos b) n = subst (λ w. AtMostRoot (pos 2 *ℤ c) (w *ℤ pos b) n) ew (gap_reach g (unsigned_abs f) b 50000 sq within) in
    let far : AtMostRoot (l.width *ℤ pos b) (pos 2 *ℤ (z -ℤ f)) n = rw s at end in
    let m : (pos n *ℤ (v -ℤ pos 50000)) ≤ℤ (near.at *ℤ f +ℤ c) = notice_big n f v o.along near.at g.beyond o.aside b big near.reach in
    let r = band_east f (v -ℤ pos 50000) z near.at (pos 2) l.width c b n n0 (omega (arith, ints)) w0 near.past_start near.before_end side m start far in
    omega (arith, ints, r)
  where
    notice_big : (n : ℕ) (f v m at : ℤ) (p q b : ℕ) → (pos n *ℤ v) ≤ℤ (m *ℤ f +ℤ pos (q * b)) → (m *ℤ f) ≤ℤ (at *ℤ f +ℤ pos (p * unsigned_abs f)) →
        (pos n *ℤ (v -ℤ pos 50000)) ≤ℤ (at *ℤ f +ℤ (pos (p * unsigned_abs f + q * b) -ℤ pos (50000 * n)))
    notice_big n f v m at p q b h k = omega (arith, ints, h, k, mul-sub (pos n) v (pos 50000))

up_to : (x l z : ℤ) → (x -ℤ l) ≤ℤ ((z -ℤ pos 50000 -ℤ l) +ℤ pos 50000) → x ≤ℤ z
up_to x l z h = omega (arith, ints, h)

down_to : (x l z : ℤ) → neg_ℤ (x -ℤ l) ≤ℤ ((l -ℤ (z +ℤ pos 50000)) +ℤ pos 50000) → z ≤ℤ x
down_to x l z h = omega (arith, ints, h)

pub notice_in : (l : Landing) (box : Area) (x : Point) → pos 0 ≤ℤ l.width → IsSquare (square l.line) → HasRectangleWithin (landing_outline l) (pos 50000) box → IsWithin (gap l (offset l.line x)) 50000 → Has box x
notice_in l box x w0 sq h within =
    let r = landing_outline l in
    let b = shrunk box (pos 50000) in
    let line = l.line in
    let start = start_bounds r b w0 h in
    let end = far_bounds r b w0 h in
    let o = offset line x in
    let s = lies_so (x.x -ℤ line.x) (x.y -ℤ line.y) line.dx line.dy in
    let dx = unsigned_abs line.dx in
    let dy = unsigned_abs line.dy in
    let across : square line ≡ dy * dy + dx * dx = omega arith in
    let back : square line ≡ unsigned_abs (neg_ℤ line.dx) * unsigned_abs (neg_ℤ line.dx) + dy * dy = rw abs_neg refl in
    let across_back : square line ≡ unsigned_abs (neg_ℤ line.dy) * unsigned_abs (neg_ℤ line.dy) + dx * dx = rw abs_neg across in
    record {
      east = up_to x.x line.x box.x1 (notice_side l o line.dx (x.x -ℤ line.x) (b.x1 -ℤ line.x) (b.x1 -ℤ (line.x +ℤ line.dx)) dy sq.some refl w0 within s.east start.east end.east (end_up b.x1 line.x line.dx));
      west = down_to x.x line.x box.x0 (notice_side l o (neg_ℤ line.dx) (neg_ℤ (x.x -ℤ line.x)) (line.x -ℤ b.x0) ((line.x +ℤ line.dx) -ℤ b.x0) dy sq.some back w0 within s.west start.west end.west (end_down b.x0 line.x line.dx));
      north = up_to x.y line.y box.y1 (notice_side l o line.dy (x.y -ℤ line.y) (b.y1 -ℤ line.y) (b.y1 -ℤ (line.y +ℤ line.dy)) dx sq.some across w0 within s.north start.north end.north (end_up b.y1 line.y line.dy));
      south = down_to x.y line.y box.y0 (notice_side l o (neg_ℤ line.dy) (neg_ℤ (x.y -ℤ line.y)) (line.y -ℤ b.y0) ((line.y +ℤ line.dy) -ℤ b.y0) dx sq.some across_back w0 within s.south start.south end.south (end_down b.y0 line.y line.dy));
    }

-- ---- nothing exceeds a surface that does not cover the point
uncovered : (s : Surface) (top : ℤ) (e : Option ℕ) → IsExcess s top e → ¬ s.Covers → e ≡ None
uncovered s top None h k = refl
uncovered s top (Some e) h k = absurd (k h.covers)

pub pad_skips : (h : Heliport) (a : PadAreas) (x : Point) (top : ℤ) → IsHeldHeliport h → CoverPad h a → IsLevel top → SkipPad h x top a
pad_skips h a x top p c l = record {
  primary_none = λ n. uncovered (pad_primary h x) top _ (pad_primary-IsExcess h x top p l) (λ k. n (c.primary_has x k));
  approach1_none = λ n. uncovered (pad_approach h One x) top _ (pad_approach-IsExcess h One x top p l) (λ k. n (c.approach1_has x k));
  approach2_none = λ n. uncovered (pad_approach h Two x) top _ (pad_approach-IsExcess h Two x top p l) (λ k. n (c.approach2_has x k));
  beside_primary_none = λ n. uncovered (pad_transition h Primary x) top _ (pad_transition-IsExcess h Primary x top p l) (λ k. n (c.beside_primary_has x k));
  beside_approach1_none = λ n. uncovered (pad_transition h ApproachOne x) top _ (pad_transition-IsExcess h ApproachOne x top p l) (λ k. n (c.beside_approach1_has x k));
  beside_approach2_none = λ n. uncovered (pad_transition h ApproachTwo x) top _ (pad_transition-IsExcess h ApproachTwo x top p l) (λ k. n (c.beside_approach2_has x k));
  notice_none = λ n. uncovered (pad_notice h x) top _ (pad_notice-IsExcess h x top p l) (λ k. n (c.notice_has x k));
}
