-- No top is above a surface of a runway at a point that is clear of it.
use Rattle.std.proofs.Common.{◌≡◌, ◌⊎◌, inl, inr, ℕ, ◌*◌, ◌≤◌, ℤ, pos, ◌+ℤ◌, ◌-ℤ◌, ◌*ℤ◌, ◌≤ℤ◌, ◌<ℤ◌, neg_ℤ, arith, refl, sym, subst, Option, Some, None}
use Rattle.std.proofs.lemmas.Bool.{cases_Bool}
use Rattle.std.proofs.lemmas.Int.{ints, clamps, by_lt_z}
use Rattle.grid_exact.specs.Excess.{IsExcess, Surface}
use Rattle.grid_exact.specs.Level.{IsLevel}
use Rattle.grid_exact.specs.Lines.{Offset, along, offset, square}
use Rattle.grid_exact.specs.Root.{AboveRoot}
use Rattle.grid_exact.specs.declared.cap.Cap.{Cap}
use Rattle.grid_exact.specs.declared.point.Point.{Point}
use Rattle.grid_exact.proofs.IntLaws.{mul-le_left, mul-add, mul_assoc, product_up}
use Rattle.grid_exact.proofs.RootOrder.{BelowRoot-AtMostRoot}
use Rattle.grid_exact.proofs.RootSums.{AtMostRoot-scale}
use Rattle.airfields.specs.declared.runway.Runway.{Runway}
use Rattle.airfields.specs.Runways.{IsProper}
use Rattle.runway_lines.specs.declared.end.End.{End}
use Rattle.runway_lines.specs.declared.end.End.TheVariants.{One, Two}
use Rattle.runway_lines.specs.Centerlines.{elevation}
use Rattle.imaginary_surfaces.specs.Primaries.{IsWidth, Primary, PrimaryCovers}
use Rattle.imaginary_surfaces.specs.Approaches.{Approach, IsApproach, approach_at, base_at, is_past_split, lateral_excess, slope_at}
use Rattle.imaginary_surfaces.specs.Transitions.{beside_approach_at, beside_primary_at}
use Rattle.imaginary_surfaces.specs.Clearances.{IsClear, IsClearance, IsFarAhead, IsFarAside, none_exceeded, past_end, rise_to}
use Rattle.imaginary_surfaces.specs.Strips.{IsStripExcesses, primary_of, approach_of, primary_surface, approach_surface, primary_excess, approach_excess}
use Rattle.imaginary_surfaces.specs.Strips.{primary_transition_surface, approach_transition_surface, primary_transition_excess, approach_transition_excess}
use Rattle.imaginary_surfaces.specs.declared.clearance.Clearance.{Clearance}
use Rattle.imaginary_surfaces.specs.declared.measures.TheConstants.{SECOND_SLOPE_DROP}
use Rattle.imaginary_surfaces.proofs.ClearanceFacts.{above_root, beside_ahead, beside_aside, cut_off, narrower, over_ahead, over_aside}
use Rattle.imaginary_surfaces.proofs.ExcessLaws.{primary_excess-is, approach_excess-is, primary_transition_excess-is, approach_transition_excess-is}
use Rattle.imaginary_surfaces.proofs.PlaceFacts.{by_first, by_second}
use Rattle.imaginary_surfaces.proofs.Sound.{approach_sound, elevation_least, primary_wide, rise_sized}
use Rattle.imaginary_surfaces.proofs.ZoneFacts.{NoneOfEnd, NoneOfPrimary, along_first, along_second, before_start, not_ahead, past_end as after_end}

-- ---- how far a top is above the lowest level
rise_positive : (c : Clearance) (top : ℤ) → pos 0 ≤ℤ rise_to c top
rise_positive c top = omega (arith, ints, clamps)

rise_least : (c : Clearance) (top base : ℤ) → c.lowest ≤ℤ base → (top -ℤ base) ≤ℤ rise_to c top
rise_least c top base h = omega (arith, ints, clamps, h)

base_least : (a : Approach) (o : Offset) → (a.z -ℤ SECOND_SLOPE_DROP) ≤ℤ base_at a o
base_least a o =
    elim (cases_Bool (is_past_split a o)) [
      | inl t ↦ rw t (omega (arith, ints))
      | inr f ↦ rw f (omega (arith, ints))
    ]

-- ---- an approach surface, and that beside it, of a point ahead
abbrev IsClearAhead : Clearance → Offset → ℤ → Type 0
IsClearAhead c o top = (IsFarAhead c (rise_to c top) o.along) ⊎ (IsFarAside c (rise_to c top) o.along (pos o.aside))

record Keeps (a : Approach) (o : Offset) (c : Clearance) : Type 0 where
  sound : IsApproach a.width a.class a.z
  level : c.lowest ≤ℤ (a.z -ℤ SECOND_SLOPE_DROP)
  width : c.width ≡ a.width
  length : o.square ≤ c.length * c.length

abbrev far_factor : ℤ → ℤ → ℤ
far_factor w rise = pos 20 *ℤ w +ℤ pos 280 *ℤ rise

abbrev widest : Offset → ℤ
widest o = pos 40 *ℤ pos o.aside -ℤ pos 6 *ℤ o.along

far_positive : (w rise : ℤ) → IsWidth w → pos 0 ≤ℤ rise → pos 0 ≤ℤ far_factor w rise
far_positive w rise h k = omega (arith, ints, h.least, k)

far_of : (a : Approach) (o : Offset) (c : Clearance) (rise : ℤ) → c.width ≡ a.width → IsFarAside c rise o.along (pos o.aside) → (far_factor a.width rise *ℤ pos c.length) <ℤ widest o
far_of a o c rise e h = subst (λ w. (far_factor w rise *ℤ pos c.length) <ℤ widest o) e h

approach_clear : (a : Approach) (o : Offset) (c : Clearance) (top : ℤ) → Keeps a o c → IsClearAhead c o top → (approach_at a o).Covers → (approach_at a o).Above top → ⊥
approach_clear a o c top h (inl far) k b =
    let rise = rise_to c top in
    let r = rise_sized a o h.sound in
    let p = rise_positive c top in
    over_ahead o.along (slope_at a o) top (base_at a o) rise o.square r.rises (omega (arith, ints, r.slope_most)) (rise_least c top (base_at a o) (omega (arith, ints, h.level, base_least a o))) p
    (above_root o.along (pos 50 *ℤ rise) c.length o.square (omega (arith, ints, p)) h.length far) b
approach_clear a o c top h (inr far) k b =
    let rise = rise_to c top in
    let p = rise_positive c top in
    over_aside (lateral_excess a o) (widest o) a.width rise o.square (narrower (pos o.aside) a.class.k o.along k.ahead h.sound.sized.k_most) p
    (above_root (widest o) (far_factor a.width rise) c.length o.square (far_positive a.width rise h.sound.wide p) h.length (far_of a o c rise h.width far)) k.not_beside

scaled_far : (rise m : ℤ) (l : ℕ) → ((pos 50 *ℤ rise) *ℤ pos l) <ℤ m → ((pos 280 *ℤ (pos 50 *ℤ rise)) *ℤ pos l) <ℤ (pos 280 *ℤ m)
scaled_far rise m l h = omega (arith, ints, mul_assoc (pos 280) (pos 50 *ℤ rise) (pos l), h)

sloped_far : (s f wide out : ℤ) (l : ℕ) → pos 0 <ℤ s → wide ≤ℤ out → (f *ℤ pos l) <ℤ wide → ((s *ℤ f) *ℤ pos l) <ℤ (s *ℤ out)
sloped_far s f wide out l p h k =
    let x = f *ℤ pos l in
    omega (arith, ints, p, mul_assoc s f (pos l), mul-add s x (pos 1), mul-le_left s (x +ℤ pos 1) out p (omega (arith, ints, h, k)))

beside_clear : (a : Approach) (o : Offset) (cap : Cap) (c : Clearance) (top : ℤ) → Keeps a o c → IsClearAhead c o top → (beside_approach_at a o cap).Covers → (beside_approach_at a o cap).Above top → ⊥
beside_clear a o cap c top h (inl far) k b =
    let rise = rise_to c top in
    let r = rise_sized a o h.sound in
    let p = rise_positive c top in
    beside_ahead (slope_at a o) (lateral_excess a o) o.along a.width top (base_at a o) rise o.square r.rises (omega (arith, ints, r.slope_most))
    (rise_least c top (base_at a o) (omega (arith, ints, h.level, base_least a o))) p
    (above_root (pos 280 *ℤ o.along) (pos 280 *ℤ (pos 50 *ℤ rise)) c.length o.square (omega (arith, ints, p)) h.length (scaled_far rise o.along c.length far)) k.reached.from_side b
beside_clear a o cap c top h (inr far) k b =
    let rise = rise_to c top in
    let r = rise_sized a o h.sound in
    let p = rise_positive c top in
    let s = slope_at a o in
    let f = far_factor a.width rise in
    let n = narrower (pos o.aside) a.class.k o.along k.reached.ahead h.sound.sized.k_most in
    beside_aside s (lateral_excess a o) o.along a.width top (base_at a o) rise o.square r.rises k.reached.ahead (rise_least c top (base_at a o) (omega (arith, ints, h.level, base_least a o)))
    (above_root (s *ℤ lateral_excess a o) (s *ℤ f) c.length o.square (product_up s f (omega (arith, ints, r.rises)) (far_positive a.width rise h.sound.wide p)) h.length
    (sloped_far s f (widest o) (lateral_excess a o) c.length r.rises n (far_of a o c rise h.width far))) b

-- ---- the primary surface, and that beside it, of a point between its ends
record Between (p : Primary) (o : Offset) (c : Clearance) : Type 0 where
  wide : IsWidth p.width
  width : c.width ≡ p.width
  length : o.square ≤ c.length * c.length
  past_start : pos 0 ≤ℤ o.along
  before_end : o.along ≤ℤ pos o.square

not_far_ahead : (p : Primary) (o : Offset) (c : Clearance) (top : ℤ) → Between p o c → IsFarAhead c (rise_to c top) (past_end o) → ⊥
not_far_ahead p o c top h far =
    let rise = rise_to c top in
    let z : past_end o ≡ pos 0 = omega (arith, ints, clamps, h.past_start, h.before_end) in
    let q = product_up (pos 50 *ℤ rise) (pos c.length) (omega (arith, ints, rise_positive c top)) (omega (arith, ints)) in
    omega (arith, ints, q, z, far)

-- twice as far aside as the edge of the widest approach surface there
between_root : (p : Primary) (o : Offset) (c : Clearance) (top : ℤ) → Between p o c → IsFarAside c (rise_to c top) (past_end o) (pos o.aside) →
    AboveRoot (pos 20 *ℤ pos (2 * o.aside)) (far_factor p.width (rise_to c top)) o.square
between_root p o c top h far =
    let rise = rise_to c top in
    let z : past_end o ≡ pos 0 = omega (arith, ints, clamps, h.past_start, h.before_end) in
    let f = subst (λ w. (far_factor w rise *ℤ pos c.length) <ℤ (pos 40 *ℤ pos o.aside -ℤ pos 6 *ℤ past_end o)) h.width far in
    above_root (pos 20 *ℤ pos (2 * o.aside)) (far_factor p.width rise) c.length o.square (far_positive p.width rise h.wide (rise_positive c top)) h.length (omega (arith, ints, z, f))

primary_clear : (p : Primary) (o : Offset) (c : Clearance) (top : ℤ) → Between p o c → IsClear c o top → PrimaryCovers p o → ⊥
primary_clear p o c top h (inl far) k = not_far_ahead p o c top h far
primary_clear p o c top h (inr far) k =
    cut_off (pos 20 *ℤ pos (2 * o.aside)) (far_factor p.width (rise_to c top)) (pos 20 *ℤ p.width) o.square (between_root p o c top h far)
    (AtMostRoot-scale 20 (pos (2 * o.aside)) p.width o.square k.not_beside) (omega (arith, ints, rise_positive c top))

beside_primary_clear : (p : Primary) (o : Offset) (x : Point) (cap : Cap) (c : Clearance) (top : ℤ) → Between p o c → c.lowest ≤ℤ elevation p.profile x → IsClear c o top →
    (beside_primary_at p o x cap).Above top → ⊥
beside_primary_clear p o x cap c top h l (inl far) b = not_far_ahead p o c top h far
beside_primary_clear p o x cap c top h l (inr far) b =
    let e = elevation p.profile x in
    let factor = pos 14 *ℤ top -ℤ (pos 14 *ℤ e -ℤ p.width) in
    cut_off (pos 20 *ℤ pos (2 * o.aside)) (far_factor p.width (rise_to c top)) (pos 20 *ℤ factor) o.square (between_root p o c top h far)
    (AtMostRoot-scale 20 (pos (2 * o.aside)) factor o.square (BelowRoot-AtMostRoot (pos (2 * o.aside)) factor o.square b)) (omega (arith, ints, rise_least c top e l))

-- ---- so nothing exceeds it
unexceeded : (s : Surface) (top : ℤ) (e : Option ℕ) → IsExcess s top e → (s.Covers → s.Above top → ⊥) → e ≡ None
unexceeded s top None h k = refl
unexceeded s top (Some e) h k = absurd (k h.covers h.above)

end_none : (r : Runway) (end : End) (x : Point) (c : Clearance) (top : ℤ) (cap : Cap) → IsProper r → IsLevel top → Keeps (approach_of r end) (offset (approach_of r end).line x) c →
    IsClearAhead c (offset (approach_of r end).line x) top → NoneOfEnd r end x top cap
end_none r end x c top cap p l h far =
    let a = approach_of r end in
    let o = offset a.line x in
    record {
      over = unexceeded (approach_surface r end x) top (approach_excess r end x top) (approach_excess-is r end x top p l) (λ k b. approach_clear a o c top h far k b);
      beside = unexceeded (approach_transition_surface r end x cap) top (approach_transition_excess r end x cap top) (approach_transition_excess-is r end x cap top p l) (λ k b. beside_clear a o cap c top h far k b);
    }

-- where the offsets by the lines outward from the ends are
first_none : (r : Runway) (x : Point) (c : Clearance) (top : ℤ) (cap : Cap) → IsProper r → IsLevel top → IsClearance (primary_of r) (approach_of r One) (approach_of r Two) c →
    IsClear c (offset (primary_of r).line x) top → along (primary_of r).line x <ℤ pos 0 → NoneOfEnd r One x top cap
first_none r x c top cap p l h clear before =
    let o = offset (primary_of r).line x in
    let q : Offset = record { along = neg_ℤ o.along; aside = o.aside; square = o.square } in
    let e : q ≡ offset (approach_of r One).line x = by_first r x o q refl refl refl refl in
    let m : past_end o ≡ neg_ℤ o.along = omega (arith, ints, clamps, before) in
    let far : IsClearAhead c q top = subst (λ z. (IsFarAhead c (rise_to c top) z) ⊎ (IsFarAside c (rise_to c top) z (pos o.aside))) m clear in
    let keeps : Keeps (approach_of r One) q c = record { sound = approach_sound r One p; level = h.level1; width = h.width1; length = h.length } in
    end_none r One x c top cap p l (subst (λ (z : Offset). Keeps (approach_of r One) z c) e keeps) (subst (λ (z : Offset). IsClearAhead c z top) e far)

second_none : (r : Runway) (x : Point) (c : Clearance) (top : ℤ) (cap : Cap) → IsProper r → IsLevel top → IsClearance (primary_of r) (approach_of r One) (approach_of r Two) c →
    IsClear c (offset (primary_of r).line x) top → pos (square (primary_of r).line) <ℤ along (primary_of r).line x → NoneOfEnd r Two x top cap
second_none r x c top cap p l h clear past =
    let o = offset (primary_of r).line x in
    let q : Offset = record { along = o.along -ℤ pos o.square; aside = o.aside; square = o.square } in
    let e : q ≡ offset (approach_of r Two).line x = by_second r x o q refl refl refl refl in
    let m : past_end o ≡ o.along -ℤ pos o.square = omega (arith, ints, clamps, past) in
    let far : IsClearAhead c q top = subst (λ z. (IsFarAhead c (rise_to c top) z) ⊎ (IsFarAside c (rise_to c top) z (pos o.aside))) m clear in
    let keeps : Keeps (approach_of r Two) q c = record { sound = approach_sound r Two p; level = h.level2; width = h.width2; length = h.length } in
    end_none r Two x c top cap p l (subst (λ (z : Offset). Keeps (approach_of r Two) z c) e keeps) (subst (λ (z : Offset). IsClearAhead c z top) e far)

between_none : (r : Runway) (x : Point) (c : Clearance) (top : ℤ) (cap : Cap) → IsProper r → IsLevel top → IsClearance (primary_of r) (approach_of r One) (approach_of r Two) c →
    IsClear c (offset (primary_of r).line x) top → pos 0 ≤ℤ along (primary_of r).line x → along (primary_of r).line x ≤ℤ pos (square (primary_of r).line) → NoneOfPrimary r x top cap
between_none r x c top cap p l h clear a b =
    let s = primary_of r in
    let o = offset s.line x in
    let between : Between s o c = record { wide = primary_wide r; width = h.width; length = h.length; past_start = a; before_end = b } in
    let low : c.lowest ≤ℤ elevation s.profile x = omega (arith, ints, h.level, elevation_least r x p) in
    record {
      over = unexceeded (primary_surface r x) top (primary_excess r x top) (primary_excess-is r x top p l) (λ k d. primary_clear s o c top between clear k);
      beside = unexceeded (primary_transition_surface r x cap) top (primary_transition_excess r x cap top) (primary_transition_excess-is r x cap top p l) (λ k d. beside_primary_clear s o x cap c top between low clear d);
    }

joined : (r : Runway) (x : Point) (top : ℤ) (cap : Cap) → NoneOfPrimary r x top cap → NoneOfEnd r One x top cap → NoneOfEnd r Two x top cap → IsStripExcesses r x top cap none_exceeded
joined r x top cap p one two = record {
  primary = sym p.over;
  approach1 = sym one.over;
  approach2 = sym two.over;
  beside_primary = sym p.beside;
  beside_approach1 = sym one.beside;
  beside_approach2 = sym two.beside;
}

pub strip_clear : (r : Runway) (x : Point) (c : Clearance) (top : ℤ) (cap : Cap) → IsProper r → IsLevel top → IsClearance (primary_of r) (approach_of r One) (approach_of r Two) c →
    IsClear c (offset (primary_of r).line x) top → IsStripExcesses r x top cap none_exceeded
strip_clear r x c top cap p l h clear =
    let m = along (primary_of r).line x in
    let n = square (primary_of r).line in
    by_lt_z m (pos 0)
    (λ before. joined r x top cap (before_start r x top cap p l before) (first_none r x c top cap p l h clear before)
    (not_ahead r Two x top cap p l (omega (arith, ints, along_second r x, before))))
    (λ a. by_lt_z (pos n) m
    (λ past. joined r x top cap (after_end r x top cap p l past) (not_ahead r One x top cap p l (omega (arith, ints, along_first r x, past))) (second_none r x c top cap p l h clear past))
    (λ b. joined r x top cap (between_none r x c top cap p l h clear a b) (not_ahead r One x top cap p l (omega (arith, ints, along_first r x, a)))
    (not_ahead r Two x top cap p l (omega (arith, ints, along_second r x, b)))))
