-- What is kept of a runway says its distance and its elevation.
use Rattle.std.proofs.Common.{◌≡◌, ℕ, zero, suc, ◌+◌, ◌*◌, ◌≤◌, ◌^◌, ◌<◌, unsigned_abs, ℤ, pos, negsuc, ◌+ℤ◌, ◌-ℤ◌, ◌*ℤ◌, ◌≤ℤ◌, ◌<ℤ◌, int_lt, refl, true, false, arith, ap, subst, ◌∙◌}
use Rattle.std.specs.Int.{int_div_euclid}
use Rattle.std.proofs.Math.Nat.{mul-div_cancel}
use Rattle.std.proofs.lemmas.Int.{ints, by_lt_z}
use Rattle.std.proofs.lemmas.Nat.{div-mul-add}
use Rattle.std.specs.declared.cmp.Ordering.{Ordering}
use Rattle.grid_exact.specs.Lines.{Offset}
use Rattle.grid_exact.specs.declared.point.Point.{Point}
use Rattle.grid_exact.proofs.Sizes.{abs_mul_le}
use Rattle.grid_exact.proofs.TestFacts.{lt_out}
use Rattle.runway_lines.specs.Centerlines.{clamped_length, elevation_at}
use Rattle.runway_lines.specs.Profiles.{profile, profile_of}
use Rattle.runway_notice.specs.Candidates.{IsCandidate}
use Rattle.runway_notice.specs.Distances.{Fraction, fraction_cmp, square_distance}
use Rattle.runway_notice.specs.Nearest.{distance_of, elevation_of, offset_of}
use Rattle.runway_notice.specs.Places.{place_offset}
use Rattle.runway_notice.specs.declared.candidate.Candidate.{Candidate}
use Rattle.runway_notice.proofs.DistanceFacts.{profile_some}

pub elevation_is : (x : Point) (c : Candidate) (z : ℤ) → IsCandidate x c → z ≡ elevation_at (profile c.line) (place_offset c.at) → z ≡ elevation_of x c.runway.now
elevation_is x c z h e = e ∙ (ap (λ p. elevation_at p (place_offset c.at)) h.line_is ∙ ap (λ o. elevation_at (profile_of c.runway.now) o) h.at_is)

-- ---- past the ends of the centerline its elevation is that of the end
whole_quotient : (a : ℤ) (k : ℕ) → 0 < k → int_div_euclid (a *ℤ pos k) (pos k) ≡ a
whole_quotient (pos a) k p = ap pos (mul-div_cancel a p)
whole_quotient (negsuc a) zero p = absurd (omega (arith, p))
whole_quotient (negsuc a) (suc m) p = let e : negsuc a *ℤ pos (suc m) ≡ negsuc (a * suc m + m) = omega (arith, ints) in rw e (ap negsuc (div-mul-add a (suc m) m (omega arith)))

no_climb : (rise : ℤ) (n : ℕ) → 0 < n → int_div_euclid (rise *ℤ pos 0) (pos n) ≡ pos 0
no_climb rise n p = let e : rise *ℤ pos 0 ≡ pos 0 *ℤ pos n = omega (arith, ints) in rw e (whole_quotient (pos 0) n p)

pub before_start : (z rise m : ℤ) (n : ℕ) → 0 < n → m <ℤ pos 0 → z ≡ z +ℤ int_div_euclid (rise *ℤ clamped_length m n) (pos n)
before_start z rise m n p l = let t : int_lt m (pos 0) ≡ true = lt_out m (pos 0) l in rw t (omega (arith, ints, no_climb rise n p))

pub past_end : (z y m : ℤ) (n : ℕ) → 0 < n → pos n <ℤ m → y ≡ z +ℤ int_div_euclid ((y -ℤ z) *ℤ clamped_length m n) (pos n)
past_end z y m n p l =
    let f : int_lt m (pos 0) ≡ false = grind (arith, ints, l) in
    let t : int_lt (pos n) m ≡ true = lt_out (pos n) m l in
    rw (f, t) (omega (arith, ints, whole_quotient (y -ℤ z) n p))

pub start_elevation : (x : Point) (c : Candidate) → IsCandidate x c → c.at.along <ℤ pos 0 → c.runway.now.end1.z ≡ elevation_of x c.runway.now
unfolding profile_of
start_elevation x c h l =
    let r = c.runway.now in
    let o = offset_of x r in
    let k : o.along <ℤ pos 0 = subst (λ (f : Offset). f.along <ℤ pos 0) h.at_is l in
    before_start r.end1.z (r.end2.z -ℤ r.end1.z) o.along o.square (profile_some r h.proper.within_length) k

pub end_elevation : (x : Point) (c : Candidate) → IsCandidate x c → pos c.at.square <ℤ c.at.along → c.runway.now.end2.z ≡ elevation_of x c.runway.now
unfolding profile_of
end_elevation x c h l =
    let r = c.runway.now in
    let o = offset_of x r in
    let k : pos o.square <ℤ o.along = subst (λ (f : Offset). pos f.square <ℤ f.along) h.at_is l in
    past_end r.end1.z r.end2.z o.along o.square (profile_some r h.proper.within_length) k

-- and between them it is by its climb
pub not_below : (x y : ℤ) → (x <ℤ y → ⊥) → y ≤ℤ x
not_below x y h = by_lt_z x y (λ l. absurd (h l)) (λ l. l)

pub product_size : (rise along : ℤ) → unsigned_abs rise ≤ 2 ^ 18 → unsigned_abs along ≤ 2 ^ 37 → unsigned_abs (rise *ℤ along) ≤ 2 ^ 55
product_size rise along h k = omega (arith, abs_mul_le rise along (2 ^ 18) (2 ^ 37) h k)

clamped_within : (m : ℤ) (n : ℕ) → pos 0 ≤ℤ m → m ≤ℤ pos n → clamped_length m n ≡ m
clamped_within m n l h =
    let f : int_lt m (pos 0) ≡ false = grind (arith, ints, l) in
    let g : int_lt (pos n) m ≡ false = grind (arith, ints, h) in
    rw (f, g) refl

pub middle_elevation : (x : Point) (c : Candidate) (e : ℤ) → IsCandidate x c → pos 0 ≤ℤ c.at.along → c.at.along ≤ℤ pos c.at.square →
    e ≡ int_div_euclid (c.line.rise *ℤ c.at.along) (pos c.at.square) → c.line.z +ℤ e ≡ elevation_of x c.runway.now
middle_elevation x c e h l m k = elevation_is x c (c.line.z +ℤ e) h (rw (k, clamped_within c.at.along c.at.square l m) refl)

pub distance_is : (x : Point) (c : Candidate) (d : Fraction) → IsCandidate x c → d ≡ square_distance (place_offset c.at) → d ≡ distance_of x c.runway.now
distance_is x c d h e = e ∙ ap square_distance h.at_is

pub ranked : (x : Point) (c d : Candidate) (e f : Fraction) (o : Ordering) → IsCandidate x c → IsCandidate x d → e ≡ square_distance (place_offset c.at) → f ≡ square_distance (place_offset d.at) →
    fraction_cmp e f ≡ o → fraction_cmp (distance_of x c.runway.now) (distance_of x d.runway.now) ≡ o
ranked x c d e f o h k p q r = rw (distance_is x c e h p, distance_is x d f k q) at r
