-- A box that has a rectangle has its line, and one that has a trapezoid has a narrower one.
use Rattle.std.proofs.Common.{ℕ, ℤ, pos, ◌<◌, ◌≤◌, ◌+ℤ◌, ◌-ℤ◌, ◌*ℤ◌, ◌≤ℤ◌, ◌<ℤ◌, neg_ℤ, unsigned_abs, arith}
use Rattle.std.proofs.Math.Nat.{mul-le-mul_right}
use Rattle.std.proofs.lemmas.Int.{ints, by_lt_z, unsigned_abs-mul}
use Rattle.grid_exact.specs.Root.{AtLeastRoot, AtMostRoot}
use Rattle.grid_exact.specs.Lines.{Line, square}
use Rattle.grid_exact.specs.declared.area.Area.{Area}
use Rattle.grid_exact.proofs.IntLaws.{product_up, sign_of_product}
use Rattle.grid_exact.proofs.RootOrder.{AtLeastRoot_more, AtMostRoot_less}
use Rattle.grid_exact.proofs.RootSums.{at_zero}
use Rattle.outline_boxes.specs.Boxes.{Encloses, shrunk}
use Rattle.outline_boxes.specs.Corners.{HasCorner, corner}
use Rattle.outline_boxes.specs.Rectangles.{Rectangle, HasRectangle, HasRectangleWithin}
use Rattle.outline_boxes.specs.Trapezoids.{HasTrapezoid}
use Rattle.outline_boxes.proofs.Corners.{EndBounds, far_bounds, start_bounds}
use Rattle.airfield_findings.specs.Around.{around_point}
use Rattle.airfield_findings.proofs.CornersIn.{neg-left}

-- ---- what the corners to both sides of a point say of it
not_below : (half d scale : ℤ) (a n : ℕ) → pos 0 <ℤ scale → 0 < n → pos 0 ≤ℤ half → AtMostRoot (half *ℤ pos a) (scale *ℤ d) n → pos 0 ≤ℤ d
not_below half d scale a n s p q h =
    let z : AtMostRoot (pos 0) (scale *ℤ d) n = AtMostRoot_less (half *ℤ pos a) (pos 0) (scale *ℤ d) n (product_up half (pos a) q (omega (arith, ints))) h in
    sign_of_product scale d s (at_zero (scale *ℤ d) n p z)

end_in : (r : Rectangle) (x y : ℤ) (a : Area) → pos 0 <ℤ r.scale → 0 < square r.line → pos 0 ≤ℤ r.half → EndBounds r x y a → Encloses a (around_point x y (pos 0))
end_in r x y a s p q h =
    let n = square r.line in
    let w = not_below r.half (x -ℤ a.x0) r.scale (unsigned_abs r.line.dy) n s p q h.west in
    let e = not_below r.half (a.x1 -ℤ x) r.scale (unsigned_abs r.line.dy) n s p q h.east in
    let u = not_below r.half (y -ℤ a.y0) r.scale (unsigned_abs r.line.dx) n s p q h.south in
    let o = not_below r.half (a.y1 -ℤ y) r.scale (unsigned_abs r.line.dx) n s p q h.north in
    record { west = omega (arith, ints, w); south = omega (arith, ints, u); east = omega (arith, ints, e); north = omega (arith, ints, o) }

-- ---- both ends of a rectangle's line lie in its box
pub record HasLine (l : Line) (reach : ℤ) (a : Area) : Type 0 where
  pub start : Encloses a (around_point l.x l.y reach)
  pub end : Encloses a (around_point (l.x +ℤ l.dx) (l.y +ℤ l.dy) reach)

pub rectangle_has_line : (r : Rectangle) (a : Area) → pos 0 <ℤ r.scale → 0 < square r.line → pos 0 ≤ℤ r.half → HasRectangle r a → HasLine r.line (pos 0) a
rectangle_has_line r a s p q h =
    let l = r.line in
    record { start = end_in r l.x l.y a s p q (start_bounds r a q h); end = end_in r (l.x +ℤ l.dx) (l.y +ℤ l.dy) a s p q (far_bounds r a q h) }

-- so does, where the rectangle is held with a margin, the margin about them
unshrunk : (a : Area) (x y m : ℤ) → Encloses (shrunk a m) (around_point x y (pos 0)) → Encloses a (around_point x y m)
unshrunk a x y m h = record { west = omega (arith, ints, h.west); south = omega (arith, ints, h.south); east = omega (arith, ints, h.east); north = omega (arith, ints, h.north) }

pub within_has_line : (r : Rectangle) (m : ℤ) (a : Area) → pos 0 <ℤ r.scale → 0 < square r.line → pos 0 ≤ℤ r.half → HasRectangleWithin r m a → HasLine r.line m a
within_has_line r m a s p q h =
    let l = r.line in
    let k = rectangle_has_line r (shrunk a m) s p q h in
    record { start = unshrunk a l.x l.y m k.start; end = unshrunk a (l.x +ℤ l.dx) (l.y +ℤ l.dy) m k.end }

-- ---- a corner that is nearer to the line lies between those to both sides
smaller : (k l a : ℤ) → unsigned_abs k ≤ unsigned_abs l → unsigned_abs (k *ℤ a) ≤ unsigned_abs (l *ℤ a)
smaller k l a h = rw (unsigned_abs-mul k a, unsigned_abs-mul l a) (mul-le-mul_right (unsigned_abs a) h)

between_up : (u l k a B : ℤ) (n : ℕ) → unsigned_abs k ≤ unsigned_abs l → AtMostRoot (u -ℤ l *ℤ a) B n → AtMostRoot (u -ℤ neg_ℤ l *ℤ a) B n → AtMostRoot (u -ℤ k *ℤ a) B n
between_up u l k a B n h p q =
    by_lt_z (pos 0) (l *ℤ a)
    (λ up. AtMostRoot_less (u -ℤ neg_ℤ l *ℤ a) (u -ℤ k *ℤ a) B n (omega (arith, ints, smaller k l a h, neg-left l a, up)) q)
    (λ down. AtMostRoot_less (u -ℤ l *ℤ a) (u -ℤ k *ℤ a) B n (omega (arith, ints, smaller k l a h, neg-left l a, down)) p)

between_down : (u l k a B : ℤ) (n : ℕ) → unsigned_abs k ≤ unsigned_abs l → AtLeastRoot (u -ℤ l *ℤ a) B n → AtLeastRoot (u -ℤ neg_ℤ l *ℤ a) B n → AtLeastRoot (u -ℤ k *ℤ a) B n
between_down u l k a B n h p q =
    by_lt_z (pos 0) (l *ℤ a)
    (λ up. AtLeastRoot_more (u -ℤ l *ℤ a) (u -ℤ k *ℤ a) B n (omega (arith, ints, smaller k l a h, neg-left l a, up)) p)
    (λ down. AtLeastRoot_more (u -ℤ neg_ℤ l *ℤ a) (u -ℤ k *ℤ a) B n (omega (arith, ints, smaller k l a h, neg-left l a, down)) q)

corner_less : (l : Line) (scale x y ahead wide left : ℤ) (a : Area) → unsigned_abs left ≤ unsigned_abs wide →
    HasCorner a (corner l scale x y ahead wide) → HasCorner a (corner l scale x y ahead (neg_ℤ wide)) → HasCorner a (corner l scale x y ahead left)
corner_less l scale x y ahead wide left a h p q =
    let n = square l in
    let k : unsigned_abs (neg_ℤ left) ≤ unsigned_abs (neg_ℤ wide) = omega (arith, ints, h) in
    record {
      west = between_down (ahead *ℤ l.dx) wide left l.dy (scale *ℤ (a.x0 -ℤ x)) n h p.west q.west;
      east = between_up (ahead *ℤ l.dx) wide left l.dy (scale *ℤ (a.x1 -ℤ x)) n h p.east q.east;
      south = between_down (ahead *ℤ l.dy) (neg_ℤ wide) (neg_ℤ left) l.dx (scale *ℤ (a.y0 -ℤ y)) n k p.south q.south;
      north = between_up (ahead *ℤ l.dy) (neg_ℤ wide) (neg_ℤ left) l.dx (scale *ℤ (a.y1 -ℤ y)) n k p.north q.north;
    }

-- ---- a trapezoid that is not wider at either end
pub trapezoid_less : (l : Line) (scale length wide_near wide_far near far : ℤ) (a : Area) → unsigned_abs near ≤ unsigned_abs wide_near → unsigned_abs far ≤ unsigned_abs wide_far →
    HasTrapezoid (record { line = l; scale = scale; near = wide_near; far = wide_far; length = length }) a → HasTrapezoid (record { line = l; scale = scale; near = near; far = far; length = length }) a
trapezoid_less l scale length wide_near wide_far near far a p q h =
    let p' : unsigned_abs (neg_ℤ near) ≤ unsigned_abs wide_near = omega (arith, ints, p) in
    let q' : unsigned_abs (neg_ℤ far) ≤ unsigned_abs wide_far = omega (arith, ints, q) in
    record {
      near_left = corner_less l scale l.x l.y (pos 0) wide_near near a p h.near_left h.near_right;
      near_right = corner_less l scale l.x l.y (pos 0) wide_near (neg_ℤ near) a p' h.near_left h.near_right;
      far_left = corner_less l scale l.x l.y (scale *ℤ length) wide_far far a q h.far_left h.far_right;
      far_right = corner_less l scale l.x l.y (scale *ℤ length) wide_far (neg_ℤ far) a q' h.far_left h.far_right;
    }
