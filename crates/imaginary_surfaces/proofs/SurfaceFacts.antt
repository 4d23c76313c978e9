-- What covers a point, as the tests compute it, and excesses by them.
use Rattle.std.proofs.Common.{◌≡◌, ℕ, ℤ, pos, ◌*◌, ◌*ℤ◌, ◌-ℤ◌, ◌<ℤ◌, ◌≤◌, ◌≤ℤ◌, ◌^◌, sym, Option, Some, None, Bool, true, int_le, int_lt}
use Rattle.std.specs.Prelude.{IfSome}
use Rattle.grid_exact.specs.Root.{BelowRoot}
use Rattle.grid_exact.specs.Level.{Reaches}
use Rattle.grid_exact.specs.Laws.{BelowRoot-AtMostRoot, Reaches_above}
use Rattle.grid_exact.specs.Excess.{IsExcess, root_surface, is_at_most_root}
use Rattle.grid_exact.specs.declared.point.Point.{Point}
use Rattle.grid_exact.proofs.ExcessLemmas.{flat_excess_of-is, root_excess_of-is}
use Rattle.airfields.specs.declared.runway.Runway.{Runway}
use Rattle.runway_classes.specs.declared.class.EndClass.{EndClass}
use Rattle.runway_lines.specs.declared.end.End.{End}
use Rattle.grid_exact.specs.Lines.{Line, Offset, offset}
use Rattle.runway_lines.specs.Centerlines.{Profile, elevation}
use Rattle.imaginary_surfaces.specs.Primaries.{Primary, PrimaryCovers, primary_covers}
use Rattle.imaginary_surfaces.specs.Approaches.{Approach, ApproachCovers, approach_covers, lateral_excess, slope_at, base_at}
use Rattle.imaginary_surfaces.specs.Strips.{primary_of, approach_of, primary_surface, approach_surface, primary_excess, approach_excess}
use Rattle.imaginary_surfaces.specs.declared.measures.TheConstants.{HALF_WIDTH_SCALE}
use Rattle.grid_exact.proofs.TestFacts.{all_true, at_most_in, at_most_out, first_true, le_in, le_out, lt_in, lt_out, second_true, third_true}

pub primary_out : (p : Primary) (o : Offset) → PrimaryCovers p o → primary_covers p o ≡ true
unfolding primary_covers
primary_out p o h =
    all_true (int_le (pos 0) o.along) (int_le o.along (pos o.square)) (is_at_most_root (pos (2 * o.aside)) p.width o.square)
    (le_out (pos 0) o.along h.past_start) (le_out o.along (pos o.square) h.before_end) (at_most_out (pos (2 * o.aside)) p.width o.square h.not_beside)

pub primary_in : (p : Primary) (o : Offset) → primary_covers p o ≡ true → PrimaryCovers p o
unfolding primary_covers
primary_in p o h =
    let a = int_le (pos 0) o.along in
    let b = int_le o.along (pos o.square) in
    let d = is_at_most_root (pos (2 * o.aside)) p.width o.square in
    record {
      past_start = le_in (pos 0) o.along (first_true a b d h);
      before_end = le_in o.along (pos o.square) (second_true a b d h);
      not_beside = at_most_in (pos (2 * o.aside)) p.width o.square (third_true a b d h);
    }

pub approach_out : (a : Approach) (o : Offset) → ApproachCovers a o → approach_covers a o ≡ true
unfolding approach_covers
approach_out a o h =
    let half = HALF_WIDTH_SCALE *ℤ a.width in
    all_true (int_lt (pos 0) o.along) (is_at_most_root o.along a.class.length o.square) (is_at_most_root (lateral_excess a o) half o.square)
    (lt_out (pos 0) o.along h.ahead) (at_most_out o.along a.class.length o.square h.not_past) (at_most_out (lateral_excess a o) half o.square h.not_beside)

pub approach_in : (a : Approach) (o : Offset) → approach_covers a o ≡ true → ApproachCovers a o
unfolding approach_covers
approach_in a o h =
    let half = HALF_WIDTH_SCALE *ℤ a.width in
    let b = int_lt (pos 0) o.along in
    let d = is_at_most_root o.along a.class.length o.square in
    let e = is_at_most_root (lateral_excess a o) half o.square in
    record {
      ahead = lt_in (pos 0) o.along (first_true b d e h);
      not_past = at_most_in o.along a.class.length o.square (second_true b d e h);
      not_beside = at_most_in (lateral_excess a o) half o.square (third_true b d e h);
    }

-- ---- an excess is what the tests compute
pub primary_listed : (r : Runway) (x : Point) (top : ℤ) (e : Option ℕ) → IfSome e (λ d. d ≤ 2 ^ 26) → IsExcess (primary_surface r x) top e → e ≡ primary_excess r x top
unfolding primary_excess
primary_listed r x top e size h =
    let p = primary_of r in
    let o = offset p.line x in
    sym (flat_excess_of-is (PrimaryCovers p o) (primary_covers p o) (elevation p.profile x) top e (primary_out p o) (primary_in p o) size h)

pub approach_listed : (r : Runway) (end : End) (x : Point) (top : ℤ) (e : Option ℕ) → IfSome e (λ d. d ≤ 2 ^ 26) → IsExcess (approach_surface r end x) top e →
    e ≡ approach_excess r end x top
unfolding approach_excess
approach_listed r end x top e size h =
    let a = approach_of r end in
    let o = offset a.line x in
    sym (root_excess_of-is (ApproachCovers a o) (approach_covers a o) o.along (slope_at a o) (slope_at a o *ℤ base_at a o) o.square top e (approach_out a o) (approach_in a o) size h)

-- ---- one slope that covers by another condition, which need only hold with the first where the top is above
pub root_for : (C D : Type 0) (a k c : ℤ) (n : ℕ) (top : ℤ) (r : Option ℕ) → (C → BelowRoot a (k *ℤ top -ℤ c) n → D) → (D → C) → IsExcess (root_surface C a k c n) top r →
    IsExcess (root_surface D a k c n) top r
root_for C D a k c n top None to back h = λ p. h (back p.0, p.1)
root_for C D a k c n top (Some e) to back h = record { covers = to h.covers h.above; above = h.above; at_or_above = h.at_or_above; greatest = h.greatest }

-- a limit at or above the top is at or above the slope where the top is above it
pub limit_reached : (a k c : ℤ) (n : ℕ) (top limit : ℤ) → pos 0 <ℤ k → top ≤ℤ limit → BelowRoot a (k *ℤ top -ℤ c) n → Reaches a k c n limit
limit_reached a k c n top limit p h b = Reaches_above a k c n top limit p h (BelowRoot-AtMostRoot a (k *ℤ top -ℤ c) n b)

-- ---- shapes whose parts are the same
abbrev shaped_primary : Line → ℤ → Profile → Primary
shaped_primary l w p = record { line = l; width = w; profile = p }

abbrev shaped_approach : Line → ℤ → EndClass → ℤ → Bool → Approach
shaped_approach l w e z p = record { line = l; width = w; class = e; z = z; precision = p }

pub same_primary : (l l' : Line) (w w' : ℤ) (p p' : Profile) → l ≡ l' → w ≡ w' → p ≡ p' → shaped_primary l w p ≡ shaped_primary l' w' p'
same_primary l l' w w' p p' a b d = rw (a, b, d)

pub same_approach : (l l' : Line) (w w' : ℤ) (e e' : EndClass) (z z' : ℤ) (p p' : Bool) → l ≡ l' → w ≡ w' → e ≡ e' → z ≡ z' → p ≡ p' → shaped_approach l w e z p ≡ shaped_approach l' w' e' z' p'
same_approach l l' w w' e e' z z' p p' a b d f g = rw (a, b, d, f, g)
