-- What lies in a box about a point: corners that are near to it, and whole outlines.
use Rattle.std.proofs.Common.{◌≡◌, ℕ, ℤ, pos, ◌+◌, ◌*◌, ◌≤◌, ◌+ℤ◌, ◌-ℤ◌, ◌*ℤ◌, ◌≤ℤ◌, ◌<ℤ◌, neg_ℤ, unsigned_abs, arith}
use Rattle.std.proofs.Math.IntN.{*ℤ_comm}
use Rattle.std.proofs.Math.Nat.{mul-le-mul_left}
use Rattle.std.proofs.lemmas.Int.{ints, unsigned_abs-mul}
use Rattle.grid_exact.specs.Root.{AtLeastRoot, AtMostRoot}
use Rattle.grid_exact.specs.Lines.{Line}
use Rattle.grid_exact.specs.Vector.{length_of}
use Rattle.grid_exact.specs.declared.area.Area.{Area}
use Rattle.grid_exact.proofs.IntLaws.{abs_neg, mul-le_left, mul-neg, mul-sub, product_up}
use Rattle.grid_exact.proofs.RootOrder.{AtLeastRoot-neg, AtMostRoot_less, AtMostRoot_more}
use Rattle.grid_exact.proofs.RootSums.{AtMostRoot_add, in_pp}
use Rattle.outline_boxes.specs.Boxes.{Encloses}
use Rattle.outline_boxes.specs.Corners.{HasCorner, corner}
use Rattle.outline_boxes.specs.Rectangles.{Rectangle, HasRectangle}
use Rattle.outline_boxes.specs.Trapezoids.{Trapezoid, HasTrapezoid}
use Rattle.airfield_findings.specs.Around.{around_point}

-- ---- a multiple of a part t of a vector of square length n is at most that multiple of its length
part_most : (k t : ℤ) (n : ℕ) → unsigned_abs t * unsigned_abs t ≤ n → AtMostRoot (k *ℤ t) (pos (unsigned_abs k)) n
part_most k t n h =
    let s = unsigned_abs k in
    let m : AtMostRoot (pos (s * unsigned_abs t)) (pos s) n = in_pp (s * unsigned_abs t) s n (omega (arith, mul-le-mul_left (s * s) h)) in
    AtMostRoot_less (pos (s * unsigned_abs t)) (k *ℤ t) (pos s) n (omega (arith, ints, unsigned_abs-mul k t)) m

pub neg-left : (k t : ℤ) → neg_ℤ k *ℤ t ≡ neg_ℤ (k *ℤ t)
neg-left k t = omega (arith, ints, *ℤ_comm (neg_ℤ k) t, mul-neg t k, *ℤ_comm t k)

-- and so is a corner, p ahead and q to a side
corner_most : (p q t a : ℤ) (n : ℕ) → length_of t a ≤ n → AtMostRoot (p *ℤ t -ℤ q *ℤ a) (pos (unsigned_abs p + unsigned_abs q)) n
corner_most p q t a n h =
    let u = part_most p t n (omega (arith, h)) in
    let v : AtMostRoot (neg_ℤ q *ℤ a) (pos (unsigned_abs q)) n = rw abs_neg at (part_most (neg_ℤ q) a n (omega (arith, h))) in
    AtMostRoot_less (p *ℤ t +ℤ neg_ℤ q *ℤ a) (p *ℤ t -ℤ q *ℤ a) (pos (unsigned_abs p + unsigned_abs q)) n
    (omega (arith, ints, neg-left q a))
    (AtMostRoot_add (p *ℤ t) (pos (unsigned_abs p)) (neg_ℤ q *ℤ a) (pos (unsigned_abs q)) n u v)

-- ---- one coordinate, at a distance d that is at least r
up_to : (p q t a scale r d : ℤ) (n : ℕ) → pos 0 <ℤ scale → pos (unsigned_abs p + unsigned_abs q) ≤ℤ (scale *ℤ r) → r ≤ℤ d → length_of t a ≤ n → AtMostRoot (p *ℤ t -ℤ q *ℤ a) (scale *ℤ d) n
up_to p q t a scale r d n s k l h =
    let m : (scale *ℤ r) ≤ℤ (scale *ℤ d) = mul-le_left scale r d s l in
    AtMostRoot_more (p *ℤ t -ℤ q *ℤ a) (pos (unsigned_abs p + unsigned_abs q)) (scale *ℤ d) n (omega (arith, ints, m, k)) (corner_most p q t a n h)

opposite : (p q t a : ℤ) → neg_ℤ (neg_ℤ p *ℤ t -ℤ neg_ℤ q *ℤ a) ≡ p *ℤ t -ℤ q *ℤ a
opposite p q t a = omega (arith, ints, neg-left p t, neg-left q a)

back : (k z base : ℤ) → neg_ℤ (k *ℤ (base -ℤ z)) ≡ k *ℤ (z -ℤ base)
back k z base = omega (arith, ints, mul-sub k base z, mul-sub k z base)

down_to : (p q t a scale r z base : ℤ) (n : ℕ) → pos 0 <ℤ scale → pos (unsigned_abs p + unsigned_abs q) ≤ℤ (scale *ℤ r) → r ≤ℤ (base -ℤ z) → length_of t a ≤ n →
    AtLeastRoot (p *ℤ t -ℤ q *ℤ a) (scale *ℤ (z -ℤ base)) n
down_to p q t a scale r z base n s k l h =
    let e : pos (unsigned_abs (neg_ℤ p) + unsigned_abs (neg_ℤ q)) ≤ℤ (scale *ℤ r) = omega (arith, ints, k) in
    let u = up_to (neg_ℤ p) (neg_ℤ q) t a scale r (base -ℤ z) n s e l h in
    rw (opposite p q t a, back scale z base) at (AtLeastRoot-neg (neg_ℤ p *ℤ t -ℤ neg_ℤ q *ℤ a) (scale *ℤ (base -ℤ z)) n u)

-- ---- a box that encloses the box about a point has each corner that is no farther from it, ahead and to a side together
pub corner_in : (l : Line) (scale x y ahead left r : ℤ) (a : Area) → pos 0 <ℤ scale → pos (unsigned_abs ahead + unsigned_abs left) ≤ℤ (scale *ℤ r) → Encloses a (around_point x y r) → HasCorner a (corner l scale x y ahead left)
corner_in l scale x y ahead left r a s k h =
    let n = length_of l.dx l.dy in
    let k' : pos (unsigned_abs ahead + unsigned_abs (neg_ℤ left)) ≤ℤ (scale *ℤ r) = omega (arith, ints, k) in
    record {
      west = down_to ahead left l.dx l.dy scale r a.x0 x n s k (omega (arith, ints, h.west)) (omega arith);
      east = up_to ahead left l.dx l.dy scale r (a.x1 -ℤ x) n s k (omega (arith, ints, h.east)) (omega arith);
      south = down_to ahead (neg_ℤ left) l.dy l.dx scale r a.y0 y n s k' (omega (arith, ints, h.south)) (omega arith);
      north = up_to ahead (neg_ℤ left) l.dy l.dx scale r (a.y1 -ℤ y) n s k' (omega (arith, ints, h.north)) (omega arith);
    }

-- ---- whole outlines
pub trapezoid_in : (t : Trapezoid) (r : ℤ) (a : Area) → pos 0 <ℤ t.scale → pos 0 ≤ℤ t.near → t.near ≤ℤ t.far → pos 0 ≤ℤ t.length → (t.scale *ℤ t.length +ℤ t.far) ≤ℤ (t.scale *ℤ r) →
    Encloses a (around_point t.line.x t.line.y r) → HasTrapezoid t a
trapezoid_in t r a s p q l m h =
    let ahead = t.scale *ℤ t.length in
    let up : pos 0 ≤ℤ ahead = product_up t.scale t.length (omega (arith, ints, s)) l in
    let near : (left : ℤ) → unsigned_abs left ≡ unsigned_abs t.near → HasCorner a (corner t.line t.scale t.line.x t.line.y (pos 0) left) =
    λ left e. corner_in t.line t.scale t.line.x t.line.y (pos 0) left r a s (omega (arith, ints, e, p, q, m, up)) h in
    let far : (left : ℤ) → unsigned_abs left ≡ unsigned_abs t.far → HasCorner a (corner t.line t.scale t.line.x t.line.y ahead left) =
    λ left e. corner_in t.line t.scale t.line.x t.line.y ahead left r a s (omega (arith, ints, e, p, q, m, up)) h in
    record {
      near_left = near t.near (omega arith);
      near_right = near (neg_ℤ t.near) (abs_neg t.near);
      far_left = far t.far (omega arith);
      far_right = far (neg_ℤ t.far) (abs_neg t.far);
    }

pub rectangle_in : (p : Rectangle) (r : ℤ) (a : Area) → pos 0 <ℤ p.scale → pos 0 ≤ℤ p.half → p.half ≤ℤ (p.scale *ℤ r) →
    Encloses a (around_point p.line.x p.line.y r) → Encloses a (around_point (p.line.x +ℤ p.line.dx) (p.line.y +ℤ p.line.dy) r) → HasRectangle p a
rectangle_in p r a s q m h k =
    let l = p.line in
    let x = l.x +ℤ l.dx in
    let y = l.y +ℤ l.dy in
    let left : pos (unsigned_abs (pos 0) + unsigned_abs p.half) ≤ℤ (p.scale *ℤ r) = omega (arith, ints, q, m) in
    let right : pos (unsigned_abs (pos 0) + unsigned_abs (neg_ℤ p.half)) ≤ℤ (p.scale *ℤ r) = omega (arith, ints, q, m) in
    record {
      start_left = corner_in l p.scale l.x l.y (pos 0) p.half r a s left h;
      start_right = corner_in l p.scale l.x l.y (pos 0) (neg_ℤ p.half) r a s right h;
      end_left = corner_in l p.scale x y (pos 0) p.half r a s left k;
      end_right = corner_in l p.scale x y (pos 0) (neg_ℤ p.half) r a s right k;
    }
