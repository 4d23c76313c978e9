-- The line between the centers is at least as long as the runway, and at most 400 feet longer in each coordinate.
use Rattle.std.proofs.Common.{◌≡◌, ℕ, ◌+◌, ◌*◌, ◌<◌, ◌≤◌, ℤ, ◌-ℤ◌, unsigned_abs, arith, refl, Bool, true, false}
use Rattle.std.proofs.Math.Nat.{mul-le-mul}
use Rattle.std.proofs.lemmas.Int.{ints, by_lt_z}
use Rattle.grid_exact.specs.Vector.{length_of}
use Rattle.grid_exact.proofs.RootSums.{le_from_squares}
use Rattle.airfields.specs.declared.runway.Runway.{Runway}
use Rattle.airfields.specs.Runways.{distance_apart, length_square}
use Rattle.runway_lines.specs.declared.end.End.{End}
use Rattle.runway_lines.specs.declared.end.End.TheVariants.{One, Two}
use Rattle.airfields.specs.Runways.{IsWithinLength}
use Rattle.grid_exact.specs.Lines.{IsSquare}
use Rattle.runway_lines.specs.Centers.{IsCenter, center, point_beyond}
use Rattle.runway_lines.specs.Ends.{AreCenters, center_x, center_y, centers, other_end}
use Rattle.runway_lines.proofs.CenterFacts.{extended_above, extended_below, extended_is, extended_near}

-- the two sizes differ by at most 4,000, and the first is the smaller
pub record Spreads (u v : ℕ) : Type 0 where
  pub least : u ≤ v
  pub most : v ≤ u + 4000

pub swapped : (p q : ℤ) → unsigned_abs (p -ℤ q) ≡ unsigned_abs (q -ℤ p)
swapped p q = omega (arith, ints)

extended_spreads : (p q : ℤ) (n : ℕ) → distance_apart p q * distance_apart p q ≤ n → 0 < n → Spreads (distance_apart p q) (unsigned_abs (point_beyond p q n -ℤ point_beyond q p n))
extended_spreads p q n h s =
    let a = point_beyond p q n in
    let b = point_beyond q p n in
    let ha = extended_is p q n (rw (swapped q p) h) s in
    let hb = extended_is q p n h s in
    let na = extended_near p q n in
    let nb = extended_near q p n in
    by_lt_z p q
    (λ l. let x = extended_below p q n a l ha in
    let y = extended_above q p n b (omega (arith, ints, l)) hb in
    record { least = omega (arith, ints, x, y, l); most = omega (arith, ints, x, y, l, na.0, nb.1) })
    (λ l. let x = extended_above p q n a l ha in
    by_lt_z q p
    (λ k. let y = extended_below q p n b k hb in
    record { least = omega (arith, ints, x, y, k); most = omega (arith, ints, x, y, k, na.1, nb.0) })
    (λ k. record { least = omega (arith, ints, k, l); most = omega (arith, ints, k, l, na.0, na.1, nb.0, nb.1) }))

center_spreads : (hard : Bool) (p q : ℤ) (n : ℕ) → distance_apart p q * distance_apart p q ≤ n → 0 < n → Spreads (distance_apart p q) (unsigned_abs (center hard p q n -ℤ center hard q p n))
center_spreads true p q n h s = extended_spreads p q n h s
center_spreads false p q n h s = record { least = omega arith; most = omega arith }

square_of_spread : (u v U V : ℕ) → Spreads u U → Spreads v V → 1000 * 1000 ≤ u * u + v * v → u * u + v * v ≤ 200000 * 200000 → IsSquare (U * U + V * V)
square_of_spread u v U V x y low high =
    let mu : u * u ≤ U * U = mul-le-mul x.least x.least in
    let mv : v * v ≤ V * V = mul-le-mul y.least y.least in
    let u_most : u ≤ 200000 = le_from_squares u 200000 (omega (arith, high)) in
    let v_most : v ≤ 200000 = le_from_squares v 200000 (omega (arith, high)) in
    let U_most : U ≤ 204000 = omega (arith, x.most, u_most) in
    let V_most : V ≤ 204000 = omega (arith, y.most, v_most) in
    let MU : U * U ≤ 204000 * 204000 = mul-le-mul U_most U_most in
    let MV : V * V ≤ 204000 * 204000 = mul-le-mul V_most V_most in
    record { some = omega (arith, mu, mv, low); size = omega (arith, MU, MV) }

-- a coordinate's way between the ends is part of the length
pub part_x : (r : Runway) → distance_apart r.end1.at.x r.end2.at.x * distance_apart r.end1.at.x r.end2.at.x ≤ length_square r
part_x r = omega arith

pub part_y : (r : Runway) → distance_apart r.end1.at.y r.end2.at.y * distance_apart r.end1.at.y r.end2.at.y ≤ length_square r
part_y r = omega arith

pub length_is_square : (r : Runway) → IsWithinLength r → IsSquare (length_square r)
length_is_square r h = record { some = omega (arith, h.least); size = omega (arith, h.most) }

pub axis_square : (r : Runway) → IsWithinLength r → IsSquare (length_of (center_x r One -ℤ center_x r Two) (center_y r One -ℤ center_y r Two))
axis_square r h =
    let some : 0 < length_square r = (length_is_square r h).some in
    square_of_spread (distance_apart r.end1.at.x r.end2.at.x) (distance_apart r.end1.at.y r.end2.at.y)
    (unsigned_abs (center_x r One -ℤ center_x r Two)) (unsigned_abs (center_y r One -ℤ center_y r Two))
    (center_spreads r.hard r.end1.at.x r.end2.at.x (length_square r) (part_x r) some)
    (center_spreads r.hard r.end1.at.y r.end2.at.y (length_square r) (part_y r) some)
    h.least h.most

pub axis_square_back : (r : Runway) → IsWithinLength r → IsSquare (length_of (center_x r Two -ℤ center_x r One) (center_y r Two -ℤ center_y r One))
axis_square_back r h = rw (swapped (center_x r Two) (center_x r One), swapped (center_y r Two) (center_y r One)) (axis_square r h)

-- ---- the centers are where they must be
center_is : (hard : Bool) (here there : ℤ) (n : ℕ) → unsigned_abs (there -ℤ here) * unsigned_abs (there -ℤ here) ≤ n → 0 < n → IsCenter hard here there n (center hard here there n)
center_is true here there n h s = extended_is here there n h s
center_is false here there n h s = refl

pub centers_are : (r : Runway) → IsWithinLength r → AreCenters r (centers r)
centers_are r h =
    let some : 0 < length_square r = (length_is_square r h).some in
    record {
      x1 = center_is r.hard r.end1.at.x r.end2.at.x (length_square r) (rw (swapped r.end2.at.x r.end1.at.x) (part_x r)) some;
      y1 = center_is r.hard r.end1.at.y r.end2.at.y (length_square r) (rw (swapped r.end2.at.y r.end1.at.y) (part_y r)) some;
      x2 = center_is r.hard r.end2.at.x r.end1.at.x (length_square r) (part_x r) some;
      y2 = center_is r.hard r.end2.at.y r.end1.at.y (length_square r) (part_y r) some;
    }

pub outward_square : (r : Runway) (end : End) → IsWithinLength r → IsSquare (length_of (center_x r end -ℤ center_x r (other_end end)) (center_y r end -ℤ center_y r (other_end end)))
outward_square r One h = axis_square r h
outward_square r Two h = axis_square_back r h

pub runway_square : (r : Runway) → IsWithinLength r → IsSquare (length_of (r.end2.at.x -ℤ r.end1.at.x) (r.end2.at.y -ℤ r.end1.at.y))
runway_square r h = rw (swapped r.end2.at.x r.end1.at.x, swapped r.end2.at.y r.end1.at.y) (length_is_square r h)
