-- The outlines of the surfaces of a runway, and what they cover.
use Rattle.std.proofs.Common.{◌≡◌, ℕ, ℤ, pos, ◌+ℤ◌, ◌-ℤ◌, ◌*ℤ◌, ◌≤ℤ◌, ◌<ℤ◌, arith, refl, true, false, Option, Some, None}
use Rattle.std.proofs.lemmas.Int.{ints}
use Rattle.grid_exact.specs.Area.{Has}
use Rattle.grid_exact.specs.Excess.{IsExcess, Surface}
use Rattle.grid_exact.specs.Level.{IsLevel}
use Rattle.grid_exact.specs.Lines.{Offset, offset}
use Rattle.grid_exact.specs.Root.{AtMostRoot}
use Rattle.grid_exact.specs.declared.area.Area.{Area}
use Rattle.grid_exact.specs.declared.cap.Cap.{Cap}
use Rattle.grid_exact.specs.declared.cap.Cap.TheVariants.{Level, Beyond}
use Rattle.grid_exact.specs.declared.point.Point.{Point}
use Rattle.grid_exact.proofs.IntLaws.{product_up}
use Rattle.outline_boxes.specs.Boxes.{Encloses, IsLeastBox}
use Rattle.outline_boxes.specs.Rectangles.{OnRectangle}
use Rattle.outline_boxes.specs.Sizes.{HasTrapezoidSizes}
use Rattle.outline_boxes.specs.Trapezoids.{HasBoxAndTrapezoid, OnTrapezoid}
use Rattle.outline_boxes.proofs.Covers.{widening}
use Rattle.runway_classes.specs.Class.{HasSizes, IsFlared}
use Rattle.runway_classes.specs.declared.class.EndClass.{EndClass}
use Rattle.airfields.specs.declared.runway.Runway.{Runway}
use Rattle.airfields.specs.Runways.{IsProper}
use Rattle.runway_lines.specs.declared.end.End.TheVariants.{One, Two}
use Rattle.imaginary_surfaces.specs.declared.areas.StripAreas.{StripAreas}
use Rattle.imaginary_surfaces.specs.Areas.{CoverStrip, HoldsBeside, HullHas, SkipStrip, approach_outline, primary_outline}
use Rattle.imaginary_surfaces.specs.Approaches.{Approach, ApproachCovers, IsApproach, lateral_excess}
use Rattle.imaginary_surfaces.specs.Primaries.{Primary, PrimaryCovers}
use Rattle.imaginary_surfaces.specs.Strips.{primary_surface, approach_surface, primary_transition_surface, approach_transition_surface}
use Rattle.imaginary_surfaces.specs.Transitions.{beside_approach, beside_primary}
use Rattle.imaginary_surfaces.proofs.ExcessLaws.{primary_excess-is, approach_excess-is, primary_transition_excess-is, approach_transition_excess-is}

-- ---- how an approach surface widens
grown : (width : ℤ) (c : EndClass) → HasSizes c → IsFlared width c → pos 20 *ℤ c.outer -ℤ pos 20 *ℤ width ≡ c.k *ℤ c.length
grown width c s f = omega (arith, ints, f)

wider : (width : ℤ) (c : EndClass) → HasSizes c → IsFlared width c → width ≤ℤ c.outer
wider width c s f = omega (arith, ints, f, product_up c.k c.length (omega (arith, ints, s.k_least)) (omega (arith, ints, s.length_least)))

pub outline_sized : (width z margin : ℤ) (c : EndClass) → IsApproach width c z → pos 0 ≤ℤ margin → margin ≤ℤ pos 2000000 → HasTrapezoidSizes (pos 40) (pos 20 *ℤ width +ℤ margin) (pos 20 *ℤ c.outer +ℤ margin) c.length
outline_sized width z margin c a p q =
    let w = wider width c a.sized a.flared in
    record {
      scale_least = omega (arith, ints);
      scale_most = omega (arith, ints);
      near_least = omega (arith, ints, a.wide.least, p);
      near_most = omega (arith, ints, w);
      length_least = a.sized.length_least;
      length_most = omega (arith, ints, a.sized.length_most);
      reach_most = omega (arith, ints, a.sized.length_most, a.sized.outer_most, q);
    }

on_outline : (a : Approach) (o : Offset) (margin z : ℤ) → IsApproach a.width a.class z → pos 0 <ℤ o.along → AtMostRoot o.along a.class.length o.square → AtMostRoot (lateral_excess a o) (pos 20 *ℤ a.width +ℤ margin) o.square → OnTrapezoid (approach_outline a margin) o
on_outline a o margin z s ahead not_past beside =
    let near = pos 20 *ℤ a.width +ℤ margin in
    let far = pos 20 *ℤ a.class.outer +ℤ margin in
    let e : far -ℤ near ≡ a.class.k *ℤ a.class.length = omega (arith, ints, grown a.width a.class s.sized s.flared) in
    record {
      ahead = omega (arith, ints, ahead);
      not_past = not_past;
      not_beside = widening a.class.length (pos 40) (pos o.aside) a.class.k near far o.along o.square s.sized.length_least e beside;
    }

pub approach_on : (a : Approach) (o : Offset) (z : ℤ) → IsApproach a.width a.class z → ApproachCovers a o → OnTrapezoid (approach_outline a (pos 0)) o
approach_on a o z s h =
    let e : pos 20 *ℤ a.width ≡ pos 20 *ℤ a.width +ℤ pos 0 = omega (arith, ints) in
    on_outline a o (pos 0) z s h.ahead h.not_past (rw e at h.not_beside)

pub primary_on : (p : Primary) (o : Offset) → PrimaryCovers p o → OnRectangle (primary_outline p) o
primary_on p o h = record { past_start = h.past_start; before_end = h.before_end; not_beside = h.not_beside }

-- ---- the transitional surfaces
pub beside_primary_in : (p : Primary) (x : Point) (cap : Cap) (hull : Area) → HullHas hull x cap → (beside_primary p x cap).Covers → Has hull x
beside_primary_in p x (Level l) hull h k = h (λ e. absurd (level_beyond l e))
  where
    level_beyond : (l : ℤ) → Level l ≡ Beyond → ⊥
    level_beyond l e = cc
beside_primary_in p x Beyond hull h k = absurd k.limited

pub beside_plain_in : (a : Approach) (x : Point) (cap : Cap) (hull : Area) → a.precision ≡ false → HullHas hull x cap → (beside_approach a x cap).Covers → Has hull x
beside_plain_in a x (Level l) hull e h k = h (λ e. cc)
beside_plain_in a x Beyond hull e h k = absurd (let t : a.precision ≡ true = k.limited.precision in cc)

pub beside_precision_in : (a : Approach) (x : Point) (cap : Cap) (hull box : Area) (z : ℤ) → IsApproach a.width a.class z → ((y : Point) → Has hull y → Has box y) →
    ((y : Point) → OnTrapezoid (approach_outline a (pos 2000000)) (offset a.line y) → Has box y) → HullHas hull x cap → (beside_approach a x cap).Covers → Has box x
beside_precision_in a x (Level l) hull box z s held on h k = held x (h (λ e. cc))
beside_precision_in a x Beyond hull box z s held on h k = on x (on_outline a (offset a.line x) (pos 2000000) z s k.reached.ahead k.reached.not_past k.limited.near)

pub precision_least : (a : Approach) (hull box : Area) → a.precision ≡ true → IsLeastBox (HasBoxAndTrapezoid hull (approach_outline a (pos 2000000))) box → IsLeastBox (HoldsBeside a hull) box
precision_least a hull box e h = record { holds = rw e h.holds; least = λ (o : Area) (g : HoldsBeside a hull o). h.least o (rw e at g) }

-- ---- a box is the least that holds itself
pub itself_least : (a : Area) → IsLeastBox (λ box. Encloses box a) a
itself_least a = record { holds = record { west = omega (arith, ints); south = omega (arith, ints); east = omega (arith, ints); north = omega (arith, ints) }; least = λ (o : Area) h. h }

-- ---- nothing exceeds a surface that does not cover the point
pub uncovered : (s : Surface) (top : ℤ) (e : Option ℕ) → IsExcess s top e → ¬ s.Covers → e ≡ None
uncovered s top None h k = refl
uncovered s top (Some e) h k = absurd (k h.covers)

pub strip_skips : (r : Runway) (hull : Area) (a : StripAreas) (x : Point) (top : ℤ) (cap : Cap) → IsProper r → CoverStrip r hull a → IsLevel top → HullHas hull x cap → SkipStrip r x top cap a
strip_skips r hull a x top cap p c l h = record {
  primary_none = λ n. uncovered (primary_surface r x) top _ (primary_excess-is r x top p l) (λ k. n (c.primary_has x k));
  approach1_none = λ n. uncovered (approach_surface r One x) top _ (approach_excess-is r One x top p l) (λ k. n (c.approach1_has x k));
  approach2_none = λ n. uncovered (approach_surface r Two x) top _ (approach_excess-is r Two x top p l) (λ k. n (c.approach2_has x k));
  beside_primary_none = λ n. uncovered (primary_transition_surface r x cap) top _ (primary_transition_excess-is r x cap top p l) (λ k. n (c.beside_primary_has x cap h k));
  beside_approach1_none = λ n. uncovered (approach_transition_surface r One x cap) top _ (approach_transition_excess-is r One x cap top p l) (λ k. n (c.beside_approach1_has x cap h k));
  beside_approach2_none = λ n. uncovered (approach_transition_surface r Two x cap) top _ (approach_transition_excess-is r Two x cap top p l) (λ k. n (c.beside_approach2_has x cap h k));
}
