-- Points that are farther from both ends of a runway in one coordinate, to one side, than a range.
use Rattle.std.proofs.Common.{◌≡◌, ℕ, ◌+◌, ◌*◌, ◌<◌, ◌≤◌, ℤ, pos, negsuc, ◌+ℤ◌, ◌-ℤ◌, ◌≤ℤ◌, ◌<ℤ◌, unsigned_abs, arith, subst}
use Rattle.std.proofs.lemmas.Int.{ints}
use Rattle.grid_exact.specs.Vector.{along_of, across_of, length_of}
use Rattle.grid_exact.specs.declared.point.Point.{Point}
use Rattle.airfields.specs.Runways.{IsProper}
use Rattle.airfields.specs.declared.runway.Runway.{Runway}
use Rattle.runway_lines.specs.Centerlines.{clamped_length}
use Rattle.runway_lines.specs.Profiles.{profile_of}
use Rattle.runway_notice.specs.Distances.{IsAtLeastRootOf}
use Rattle.runway_notice.specs.Nearest.{distance_of}
use Rattle.runway_notice.proofs.DistanceFacts.{profile_some}
use Rattle.runway_notice.proofs.FarFacts.{SameSide, east, west, far_aside}

to_east : (a b : ℤ) → pos 0 ≤ℤ a → pos 0 ≤ℤ b → SameSide a b
to_east (pos a) (pos b) h k = east a b
to_east (pos a) (negsuc b) h k = absurd (omega (arith, ints))
to_east (negsuc a) b h k = absurd (omega (arith, ints))

to_west : (a b : ℤ) → a <ℤ pos 0 → b <ℤ pos 0 → SameSide a b
to_west (negsuc a) (negsuc b) h k = west a b
to_west (negsuc a) (pos b) h k = absurd (omega (arith, ints))
to_west (pos a) b h k = absurd (omega (arith, ints))

-- the least whole distance past a range
abbrev pub past : ℤ → ℕ
past range = unsigned_abs range + 1

-- of the ways to a coordinate from two others: they are to one side, and each is at least w long
pub record AreApart (w : ℕ) (x d : ℤ) : Type 0 where
  pub side : SameSide x d
  pub first : w ≤ unsigned_abs x
  pub second : w ≤ unsigned_abs d

-- a coordinate x past a range from both p and q
pub apart_below : (x p q range : ℤ) → pos 0 ≤ℤ range → x <ℤ (p -ℤ range) → x <ℤ (q -ℤ range) → AreApart (past range) (x -ℤ p) (x -ℤ p -ℤ (q -ℤ p))
apart_below x p q range r h k = record {
  side = to_west (x -ℤ p) (x -ℤ p -ℤ (q -ℤ p)) (omega (arith, ints, r, h)) (omega (arith, ints, r, k));
  first = omega (arith, ints, r, h);
  second = omega (arith, ints, r, k);
}

pub apart_above : (x p q range : ℤ) → pos 0 ≤ℤ range → (p +ℤ range) <ℤ x → (q +ℤ range) <ℤ x → AreApart (past range) (x -ℤ p) (x -ℤ p -ℤ (q -ℤ p))
apart_above x p q range r h k = record {
  side = to_east (x -ℤ p) (x -ℤ p -ℤ (q -ℤ p)) (omega (arith, ints, r, h)) (omega (arith, ints, r, k));
  first = omega (arith, ints, r, h);
  second = omega (arith, ints, r, k);
}

-- the square of the distance, of a point m along and q aside of a line of square length n
abbrev IsFarAside : ℕ → ℤ → ℕ → ℕ → Type 0
IsFarAside w m q n = w * w * n ≤ unsigned_abs (m -ℤ clamped_length m n) * unsigned_abs (m -ℤ clamped_length m n) + q * q

far_in_x : (w : ℕ) (vx vy wx wy : ℤ) → 0 < length_of wx wy → AreApart w vx (vx -ℤ wx) → IsFarAside w (along_of vx vy wx wy) (unsigned_abs (across_of vx vy wx wy)) (length_of wx wy)
far_in_x w vx vy wx wy some a = far_aside vx vy wx wy w some a.side a.first a.second

far_in_y : (w : ℕ) (vx vy wx wy : ℤ) → 0 < length_of wx wy → AreApart w vy (vy -ℤ wy) → IsFarAside w (along_of vx vy wx wy) (unsigned_abs (across_of vx vy wx wy)) (length_of wx wy)
far_in_y w vx vy wx wy some a =
    let e : length_of wy wx ≡ length_of wx wy = omega arith in
    let f : along_of vy vx wy wx ≡ along_of vx vy wx wy = omega (arith, ints) in
    let g : unsigned_abs (across_of vy vx wy wx) ≡ unsigned_abs (across_of vx vy wx wy) = omega (arith, ints) in
    let turned_some : 0 < length_of wy wx = rw e some in
    let h = far_aside vy vx wy wx w turned_some a.side a.first a.second in
    let h1 = subst (λ (n : ℕ). IsFarAside w (along_of vy vx wy wx) (unsigned_abs (across_of vy vx wy wx)) n) e h in
    let h2 = subst (λ (m : ℤ). IsFarAside w m (unsigned_abs (across_of vy vx wy wx)) (length_of wx wy)) f h1 in
    subst (λ (q : ℕ). IsFarAside w (along_of vx vy wx wy) q (length_of wx wy)) g h2

-- a square distance that is too great for a range r
too_far : (r n part : ℕ) → 0 < n → (r + 1) * (r + 1) * n ≤ part → part ≤ r * r * n → ⊥
too_far r n part some h k = omega (arith, some, h, k)

-- the range does not come to such a point
pub past_in_x : (x : Point) (r : Runway) (range : ℤ) → IsProper r → AreApart (past range) (x.x -ℤ r.end1.at.x) (x.x -ℤ r.end1.at.x -ℤ (r.end2.at.x -ℤ r.end1.at.x)) → IsAtLeastRootOf (distance_of x r) range → ⊥
unfolding profile_of
past_in_x x r range proper a h =
    let some = profile_some r proper.within_length in
    too_far (unsigned_abs range) _ _ some (far_in_x (past range) (x.x -ℤ r.end1.at.x) (x.y -ℤ r.end1.at.y) (r.end2.at.x -ℤ r.end1.at.x) (r.end2.at.y -ℤ r.end1.at.y) some a) h.square

pub past_in_y : (x : Point) (r : Runway) (range : ℤ) → IsProper r → AreApart (past range) (x.y -ℤ r.end1.at.y) (x.y -ℤ r.end1.at.y -ℤ (r.end2.at.y -ℤ r.end1.at.y)) → IsAtLeastRootOf (distance_of x r) range → ⊥
unfolding profile_of
past_in_y x r range proper a h =
    let some = profile_some r proper.within_length in
    too_far (unsigned_abs range) _ _ some (far_in_y (past range) (x.x -ℤ r.end1.at.x) (x.y -ℤ r.end1.at.y) (r.end2.at.x -ℤ r.end1.at.x) (r.end2.at.y -ℤ r.end1.at.y) some a) h.square
