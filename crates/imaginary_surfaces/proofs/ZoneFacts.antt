-- Which surfaces of a runway cover no point before, between or past the ends of its primary surface.
use Rattle.std.proofs.Common.{◌≡◌, ℤ, pos, ◌-ℤ◌, ◌≤ℤ◌, ◌<ℤ◌, neg_ℤ, arith, None}
use Rattle.std.proofs.lemmas.Int.{ints}
use Rattle.grid_exact.specs.Level.{IsLevel}
use Rattle.grid_exact.specs.Lines.{along, square}
use Rattle.grid_exact.specs.Vector.{along_of, length_of}
use Rattle.grid_exact.specs.declared.cap.Cap.{Cap}
use Rattle.grid_exact.specs.declared.point.Point.{Point}
use Rattle.grid_exact.proofs.IntLaws.{abs_square, mul-neg, sub-mul}
use Rattle.airfields.specs.declared.runway.Runway.{Runway}
use Rattle.airfields.specs.Runways.{IsProper}
use Rattle.runway_lines.specs.declared.end.End.{End}
use Rattle.runway_lines.specs.declared.end.End.TheVariants.{One, Two}
use Rattle.runway_lines.specs.Ends.{center_x, center_y}
use Rattle.imaginary_surfaces.specs.Strips.{primary_of, approach_of, primary_surface, approach_surface, primary_excess, approach_excess}
use Rattle.imaginary_surfaces.specs.Strips.{primary_transition_surface, approach_transition_surface, primary_transition_excess, approach_transition_excess}
use Rattle.imaginary_surfaces.proofs.AreaFacts.{uncovered}
use Rattle.imaginary_surfaces.proofs.ExcessLaws.{primary_excess-is, approach_excess-is, primary_transition_excess-is, approach_transition_excess-is}

-- a way v by a way u turned back, and one that begins at the end of u
back : (u1 u2 v1 v2 : ℤ) → along_of v1 v2 (neg_ℤ u1) (neg_ℤ u2) ≡ neg_ℤ (along_of v1 v2 u1 u2)
back u1 u2 v1 v2 = omega (arith, ints, mul-neg v1 u1, mul-neg v2 u2)

on : (u1 u2 v1 v2 : ℤ) → along_of (v1 -ℤ u1) (v2 -ℤ u2) u1 u2 ≡ along_of v1 v2 u1 u2 -ℤ pos (length_of u1 u2)
on u1 u2 v1 v2 = omega (arith, ints, sub-mul v1 u1 u1, sub-mul v2 u2 u2, abs_square u1, abs_square u2)

-- a point at (x, y) by the lines between (a, b) and (c, d)
turned : (x y a b c d : ℤ) → along_of (x -ℤ a) (y -ℤ b) (a -ℤ c) (b -ℤ d) ≡ neg_ℤ (along_of (x -ℤ a) (y -ℤ b) (c -ℤ a) (d -ℤ b))
turned x y a b c d =
    let e : a -ℤ c ≡ neg_ℤ (c -ℤ a) = omega (arith, ints) in
    let f : b -ℤ d ≡ neg_ℤ (d -ℤ b) = omega (arith, ints) in
    rw (e, f) (back (c -ℤ a) (d -ℤ b) (x -ℤ a) (y -ℤ b))

moved : (x y a b c d : ℤ) → along_of (x -ℤ c) (y -ℤ d) (c -ℤ a) (d -ℤ b) ≡ along_of (x -ℤ a) (y -ℤ b) (c -ℤ a) (d -ℤ b) -ℤ pos (length_of (c -ℤ a) (d -ℤ b))
moved x y a b c d =
    let e : x -ℤ c ≡ (x -ℤ a) -ℤ (c -ℤ a) = omega (arith, ints) in
    let f : y -ℤ d ≡ (y -ℤ b) -ℤ (d -ℤ b) = omega (arith, ints) in
    rw (e, f) (on (c -ℤ a) (d -ℤ b) (x -ℤ a) (y -ℤ b))

-- along the line outward from the first end a point lies as far as it lies before the start of the primary surface
pub along_first : (r : Runway) (x : Point) → along (approach_of r One).line x ≡ neg_ℤ (along (primary_of r).line x)
unfolding primary_of approach_of
along_first r x = turned x.x x.y (center_x r One) (center_y r One) (center_x r Two) (center_y r Two)

-- and outward from the second end as far as past its end
pub along_second : (r : Runway) (x : Point) → along (approach_of r Two).line x ≡ along (primary_of r).line x -ℤ pos (square (primary_of r).line)
unfolding primary_of approach_of
along_second r x = moved x.x x.y (center_x r One) (center_y r One) (center_x r Two) (center_y r Two)

-- no top is above the primary surface, nor above the transitional surface beside it
pub record NoneOfPrimary (r : Runway) (x : Point) (top : ℤ) (cap : Cap) : Type 0 where
  pub over : primary_excess r x top ≡ None
  pub beside : primary_transition_excess r x cap top ≡ None

-- nor above the approach surface of an end, nor above that beside it
pub record NoneOfEnd (r : Runway) (end : End) (x : Point) (top : ℤ) (cap : Cap) : Type 0 where
  pub over : approach_excess r end x top ≡ None
  pub beside : approach_transition_excess r end x cap top ≡ None

pub not_ahead : (r : Runway) (end : End) (x : Point) (top : ℤ) (cap : Cap) → IsProper r → IsLevel top → along (approach_of r end).line x ≤ℤ pos 0 → NoneOfEnd r end x top cap
not_ahead r end x top cap p l h = record {
  over = uncovered (approach_surface r end x) top (approach_excess r end x top) (approach_excess-is r end x top p l) (λ k. absurd (omega (arith, ints, h, k.ahead)));
  beside = uncovered (approach_transition_surface r end x cap) top (approach_transition_excess r end x cap top) (approach_transition_excess-is r end x cap top p l) (λ k. absurd (omega (arith, ints, h, k.reached.ahead)));
}

pub before_start : (r : Runway) (x : Point) (top : ℤ) (cap : Cap) → IsProper r → IsLevel top → along (primary_of r).line x <ℤ pos 0 → NoneOfPrimary r x top cap
before_start r x top cap p l h = record {
  over = uncovered (primary_surface r x) top (primary_excess r x top) (primary_excess-is r x top p l) (λ k. absurd (omega (arith, ints, h, k.past_start)));
  beside = uncovered (primary_transition_surface r x cap) top (primary_transition_excess r x cap top) (primary_transition_excess-is r x cap top p l) (λ k. absurd (omega (arith, ints, h, k.reached.past_start)));
}

pub past_end : (r : Runway) (x : Point) (top : ℤ) (cap : Cap) → IsProper r → IsLevel top → pos (square (primary_of r).line) <ℤ along (primary_of r).line x → NoneOfPrimary r x top cap
past_end r x top cap p l h = record {
  over = uncovered (primary_surface r x) top (primary_excess r x top) (primary_excess-is r x top p l) (λ k. absurd (omega (arith, ints, h, k.before_end)));
  beside = uncovered (primary_transition_surface r x cap) top (primary_transition_excess r x cap top) (primary_transition_excess-is r x cap top p l) (λ k. absurd (omega (arith, ints, h, k.reached.before_end)));
}
