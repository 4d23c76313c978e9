-- Where a point lies by the lines outward from a runway's ends, from where it lies by the line between them.
use Rattle.std.proofs.Common.{◌≡◌, ℕ, ◌≤◌, ℤ, pos, ◌-ℤ◌, ◌<ℤ◌, neg_ℤ, unsigned_abs, arith, ap, refl, sym, ◌∙◌}
use Rattle.std.proofs.Math.IntN.{*ℤ_comm}
use Rattle.std.proofs.Math.Nat.{mul-le-mul}
use Rattle.std.proofs.lemmas.Int.{ints}
use Rattle.grid_exact.specs.Lines.{IsReach, Offset, along, distance_aside, offset, square}
use Rattle.grid_exact.specs.Vector.{across_of}
use Rattle.grid_exact.specs.declared.point.Point.{Point}
use Rattle.grid_exact.proofs.IntLaws.{mul-neg, sub-mul}
use Rattle.airfields.specs.declared.runway.Runway.{Runway}
use Rattle.runway_lines.specs.declared.end.End.TheVariants.{One, Two}
use Rattle.runway_lines.specs.Ends.{center_x, center_y}
use Rattle.runway_lines.proofs.AxisFacts.{swapped}
use Rattle.imaginary_surfaces.specs.Strips.{primary_of, approach_of}
use Rattle.imaginary_surfaces.proofs.ZoneFacts.{along_first, along_second}

reach_less : (p q n : ℕ) → p ≤ q → IsReach q n → IsReach p n
reach_less p q n h r = record { size = omega (arith, h, r.size); reach = omega (arith, mul-le-mul h h, r.reach) }

pub turned_reach : (m : ℤ) (n : ℕ) → IsReach (unsigned_abs m) n → IsReach (unsigned_abs (neg_ℤ m)) n
turned_reach m n h = reach_less (unsigned_abs (neg_ℤ m)) (unsigned_abs m) n (omega (arith, ints)) h

pub moved_reach : (m : ℤ) (n : ℕ) → pos n <ℤ m → IsReach (unsigned_abs m) n → IsReach (unsigned_abs (m -ℤ pos n)) n
moved_reach m n l h = reach_less (unsigned_abs (m -ℤ pos n)) (unsigned_abs m) n (omega (arith, ints, l)) h

pub ruleset places = (turned_reach, moved_reach)

-- ---- sideways
across_turned : (x y a b c d : ℤ) → unsigned_abs (across_of (x -ℤ a) (y -ℤ b) (a -ℤ c) (b -ℤ d)) ≡ unsigned_abs (across_of (x -ℤ a) (y -ℤ b) (c -ℤ a) (d -ℤ b))
across_turned x y a b c d =
    let e : a -ℤ c ≡ neg_ℤ (c -ℤ a) = omega (arith, ints) in
    let f : b -ℤ d ≡ neg_ℤ (d -ℤ b) = omega (arith, ints) in
    rw (e, f) (omega (arith, ints, mul-neg (x -ℤ a) (d -ℤ b), mul-neg (y -ℤ b) (c -ℤ a)))

across_on : (u1 u2 v1 v2 : ℤ) → across_of (v1 -ℤ u1) (v2 -ℤ u2) u1 u2 ≡ across_of v1 v2 u1 u2
across_on u1 u2 v1 v2 = omega (arith, ints, sub-mul v1 u1 u2, sub-mul v2 u2 u1, *ℤ_comm u1 u2)

across_moved : (x y a b c d : ℤ) → across_of (x -ℤ c) (y -ℤ d) (c -ℤ a) (d -ℤ b) ≡ across_of (x -ℤ a) (y -ℤ b) (c -ℤ a) (d -ℤ b)
across_moved x y a b c d =
    let e : x -ℤ c ≡ (x -ℤ a) -ℤ (c -ℤ a) = omega (arith, ints) in
    let f : y -ℤ d ≡ (y -ℤ b) -ℤ (d -ℤ b) = omega (arith, ints) in
    rw (e, f) (across_on (c -ℤ a) (d -ℤ b) (x -ℤ a) (y -ℤ b))

aside_first : (r : Runway) (x : Point) → distance_aside (approach_of r One).line x ≡ distance_aside (primary_of r).line x
unfolding primary_of approach_of
aside_first r x = across_turned x.x x.y (center_x r One) (center_y r One) (center_x r Two) (center_y r Two)

aside_second : (r : Runway) (x : Point) → distance_aside (approach_of r Two).line x ≡ distance_aside (primary_of r).line x
unfolding primary_of approach_of
aside_second r x = ap unsigned_abs (across_moved x.x x.y (center_x r One) (center_y r One) (center_x r Two) (center_y r Two))

square_first : (r : Runway) → square (approach_of r One).line ≡ square (primary_of r).line
unfolding primary_of approach_of
square_first r = rw (swapped (center_x r One) (center_x r Two), swapped (center_y r One) (center_y r Two)) refl

square_second : (r : Runway) → square (approach_of r Two).line ≡ square (primary_of r).line
unfolding primary_of approach_of
square_second r = refl

-- ---- offsets whose parts are the same
abbrev placed : ℤ → ℕ → ℕ → Offset
placed m q n = record { along = m; aside = q; square = n }

same_offset : (m m' : ℤ) (q q' n n' : ℕ) → m ≡ m' → q ≡ q' → n ≡ n' → placed m q n ≡ placed m' q' n'
same_offset m m' q q' n n' a b d = rw (a, b, d)

pub by_first : (r : Runway) (x : Point) (o p : Offset) → o ≡ offset (primary_of r).line x → p.along ≡ neg_ℤ o.along → p.aside ≡ o.aside → p.square ≡ o.square →
    p ≡ offset (approach_of r One).line x
by_first r x o p e a b d =
    let l = (approach_of r One).line in
    same_offset p.along (along l x) p.aside (distance_aside l x) p.square (square l) (a ∙ (ap (λ (z : Offset). neg_ℤ z.along) e ∙ sym (along_first r x)))
    (b ∙ (ap (λ (z : Offset). z.aside) e ∙ sym (aside_first r x))) (d ∙ (ap (λ (z : Offset). z.square) e ∙ sym (square_first r)))

pub by_second : (r : Runway) (x : Point) (o p : Offset) → o ≡ offset (primary_of r).line x → p.along ≡ o.along -ℤ pos o.square → p.aside ≡ o.aside → p.square ≡ o.square →
    p ≡ offset (approach_of r Two).line x
by_second r x o p e a b d =
    let l = (approach_of r Two).line in
    same_offset p.along (along l x) p.aside (distance_aside l x) p.square (square l) (a ∙ (ap (λ (z : Offset). z.along -ℤ pos z.square) e ∙ sym (along_second r x)))
    (b ∙ (ap (λ (z : Offset). z.aside) e ∙ sym (aside_second r x))) (d ∙ (ap (λ (z : Offset). z.square) e ∙ sym (square_second r)))
