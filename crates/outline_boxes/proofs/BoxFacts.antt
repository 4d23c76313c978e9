-- Boxes that edges reach are least, and hold what lies on the outline.
use Rattle.std.proofs.Common.{◌≡◌, ◌⊎◌, inl, inr, ℕ, ℤ, pos, ◌*◌, ◌<◌, ◌+ℤ◌, ◌-ℤ◌, ◌*ℤ◌, ◌≤ℤ◌, ◌<ℤ◌, neg_ℤ, unsigned_abs, arith, ap, sym, refl}
use Rattle.std.proofs.lemmas.Int.{clamps, ints}
use Rattle.std.specs.Int.{int_max, int_min}
use Rattle.grid_exact.specs.Root.{AtMostRoot}
use Rattle.grid_exact.specs.Area.{Has}
use Rattle.grid_exact.specs.Lines.{Line, square, offset}
use Rattle.grid_exact.specs.declared.area.Area.{Area}
use Rattle.grid_exact.specs.declared.point.Point.{Point}
use Rattle.grid_exact.proofs.IntLaws.{abs_neg, mul-le_left}
use Rattle.grid_exact.proofs.RootOrder.{AtMostRoot_more}
use Rattle.outline_boxes.specs.declared.edges.Edges.{Edges}
use Rattle.outline_boxes.specs.Boxes.{HoldsBoth, IsLeastBox}
use Rattle.outline_boxes.specs.Corners.{HasCorner, corner}
use Rattle.outline_boxes.specs.Rectangles.{Rectangle, HasRectangle, OnRectangle}
use Rattle.outline_boxes.specs.Trapezoids.{Trapezoid, HasTrapezoid, OnTrapezoid}
use Rattle.outline_boxes.specs.Reaches.{IsPast, IsReach, AreTrapezoidEdges, AreRectangleEdges}
use Rattle.outline_boxes.proofs.Corners.{IsAround, around_of, far_corner, near_corner}
use Rattle.outline_boxes.proofs.Covers.{lies_so, rectangle_east, trapezoid_east}

-- what is past the edges stays so farther out
past_more : (e : Edges) (t : ℤ) (a : ℕ) (y z : ℤ) → y ≤ℤ z → IsPast e t a y → IsPast e t a z
past_more e t a y z h p =
    let m : (e.scale *ℤ y) ≤ℤ (e.scale *ℤ z) = mul-le_left e.scale y z e.sized.scale_least h in
    record {
      near_edge = AtMostRoot_more (e.near *ℤ pos a) (e.scale *ℤ y) (e.scale *ℤ z) e.square m p.near_edge;
      far_edge = AtMostRoot_more (e.ahead *ℤ t +ℤ e.far *ℤ pos a) (e.scale *ℤ y) (e.scale *ℤ z) e.square m p.far_edge;
    }

-- from the start of the line
from_high : (x l z : ℤ) → (x -ℤ l) ≤ℤ (z -ℤ l) → x ≤ℤ z
from_high x l z h = omega (arith, ints, h)

from_low : (x l z : ℤ) → neg_ℤ (x -ℤ l) ≤ℤ (l -ℤ z) → z ≤ℤ x
from_low x l z h = omega (arith, ints, h)

less_low : (a b l : ℤ) → (l -ℤ a) ≤ℤ (l -ℤ b) → b ≤ℤ a
less_low a b l h = omega (arith, ints, h)

-- ---- trapezoids
pub record IsTightTrapezoid (e : Edges) (l : Line) (a : Area) : Type 0 where
  pub east : IsReach e l.dx (unsigned_abs l.dy) (a.x1 -ℤ l.x)
  pub west : IsReach e (neg_ℤ l.dx) (unsigned_abs l.dy) (l.x -ℤ a.x0)
  pub north : IsReach e l.dy (unsigned_abs l.dx) (a.y1 -ℤ l.y)
  pub south : IsReach e (neg_ℤ l.dy) (unsigned_abs l.dx) (l.y -ℤ a.y0)

around : (e : Edges) (l : Line) (a : Area) → IsTightTrapezoid e l a → IsAround e l.dx l.dy l.x l.y a
around e l a h = record { east = h.east.past; west = h.west.past; north = h.north.past; south = h.south.past }

trapezoid_holds : (t : Trapezoid) (e : Edges) (a : Area) → AreTrapezoidEdges t e → IsAround e t.line.dx t.line.dy t.line.x t.line.y a → HasTrapezoid t a
trapezoid_holds t e a i h =
    let l = t.line in
    let near : (left : ℤ) → unsigned_abs left ≡ unsigned_abs e.near → HasCorner a (corner l t.scale l.x l.y (pos 0) left) = λ left s. rw (← i.scale_is, ← i.square_is) (near_corner e l.dx l.dy l.x l.y left a s h) in
    let far : (left : ℤ) → unsigned_abs left ≡ unsigned_abs e.far → HasCorner a (corner l t.scale l.x l.y (t.scale *ℤ t.length) left) = λ left s. rw (← i.ahead_is, ← i.scale_is, ← i.square_is) (far_corner e l.dx l.dy l.x l.y left a s h) in
    record {
      near_left = near t.near (ap unsigned_abs (sym i.near_is));
      near_right = near (neg_ℤ t.near) (rw abs_neg (ap unsigned_abs (sym i.near_is)));
      far_left = far t.far (ap unsigned_abs (sym i.far_is));
      far_right = far (neg_ℤ t.far) (rw abs_neg (ap unsigned_abs (sym i.far_is)));
    }

trapezoid_around : (t : Trapezoid) (e : Edges) (a : Area) → AreTrapezoidEdges t e → HasTrapezoid t a → IsAround e t.line.dx t.line.dy t.line.x t.line.y a
trapezoid_around t e a i h =
    let l = t.line in
    around_of e l.dx l.dy l.x l.y t.near t.far a (ap unsigned_abs (sym i.near_is)) (ap unsigned_abs (sym i.far_is))
    (rw (i.scale_is, i.square_is) h.near_left) (rw (i.scale_is, i.square_is) h.near_right)
    (rw (i.ahead_is, i.scale_is, i.square_is) h.far_left) (rw (i.ahead_is, i.scale_is, i.square_is) h.far_right)

pub trapezoid_least : (t : Trapezoid) (e : Edges) (a : Area) → AreTrapezoidEdges t e → IsTightTrapezoid e t.line a → IsLeastBox (HasTrapezoid t) a
trapezoid_least t e a i h = record {
  holds = trapezoid_holds t e a i (around e t.line a h);
  least = λ (b : Area) (k : HasTrapezoid t b).
      let r = trapezoid_around t e b i k in
      let east = h.east.least (b.x1 -ℤ t.line.x) r.east in
      let west = h.west.least (t.line.x -ℤ b.x0) r.west in
      let north = h.north.least (b.y1 -ℤ t.line.y) r.north in
      let south = h.south.least (t.line.y -ℤ b.y0) r.south in
      record { west = less_low a.x0 b.x0 t.line.x west; south = less_low a.y0 b.y0 t.line.y south; east = from_high a.x1 t.line.x b.x1 east; north = from_high a.y1 t.line.y b.y1 north };
}

-- in one direction: a point of the trapezoid at v, where its edges reach to z
trapezoid_side : (t : Trapezoid) (e : Edges) (f v z m : ℤ) (q b : ℕ) → AreTrapezoidEdges t e → pos 0 <ℤ t.length → OnTrapezoid t (record { along = m; aside = q; square = square t.line }) →
    (pos (square t.line) *ℤ v) ≤ℤ (m *ℤ f +ℤ pos (q * b)) → IsPast e f b z → v ≤ℤ z
trapezoid_side t e f v z m q b i p on big past =
    let n0 : 0 < square t.line = rw i.square_is at e.sized.line.some in
    let k0 : pos 0 <ℤ t.scale = rw i.scale_is at e.sized.scale_least in
    let h0 : pos 0 ≤ℤ t.near = rw i.near_is at e.sized.near_least in
    let nf : t.near ≤ℤ t.far = rw (i.near_is, i.far_is) at e.sized.near_most in
    let near : AtMostRoot (t.near *ℤ pos b) (t.scale *ℤ z) (square t.line) = rw (i.near_is, i.scale_is, i.square_is) at past.near_edge in
    let far : AtMostRoot ((t.scale *ℤ t.length) *ℤ f +ℤ t.far *ℤ pos b) (t.scale *ℤ z) (square t.line) = rw (i.ahead_is, i.far_is, i.scale_is, i.square_is) at past.far_edge in
    trapezoid_east f v z m t.scale t.near t.far t.length q b (square t.line) n0 k0 p h0 nf on.ahead on.not_past on.not_beside big near far

pub trapezoid_has : (t : Trapezoid) (e : Edges) (a : Area) → AreTrapezoidEdges t e → pos 0 <ℤ t.length → IsTightTrapezoid e t.line a → (x : Point) → OnTrapezoid t (offset t.line x) → Has a x
trapezoid_has t e a i p h x on =
    let l = t.line in
    let vx = x.x -ℤ l.x in
    let vy = x.y -ℤ l.y in
    let s = lies_so vx vy l.dx l.dy in
    let m = (offset l x).along in
    let q = (offset l x).aside in
    let east : vx ≤ℤ (a.x1 -ℤ l.x) = trapezoid_side t e l.dx vx (a.x1 -ℤ l.x) m q (unsigned_abs l.dy) i p on s.east h.east.past in
    let west : neg_ℤ vx ≤ℤ (l.x -ℤ a.x0) = trapezoid_side t e (neg_ℤ l.dx) (neg_ℤ vx) (l.x -ℤ a.x0) m q (unsigned_abs l.dy) i p on s.west h.west.past in
    let north : vy ≤ℤ (a.y1 -ℤ l.y) = trapezoid_side t e l.dy vy (a.y1 -ℤ l.y) m q (unsigned_abs l.dx) i p on s.north h.north.past in
    let south : neg_ℤ vy ≤ℤ (l.y -ℤ a.y0) = trapezoid_side t e (neg_ℤ l.dy) (neg_ℤ vy) (l.y -ℤ a.y0) m q (unsigned_abs l.dx) i p on s.south h.south.past in
    record { west = from_low x.x l.x a.x0 west; east = from_high x.x l.x a.x1 east; south = from_low x.y l.y a.y0 south; north = from_high x.y l.y a.y1 north }

-- ---- rectangles: what a side is from the start and the end of the line
pub record IsSpan (from way reach low high : ℤ) : Type 0 where
  pub low_start : reach ≤ℤ (from -ℤ low)
  pub low_end : reach ≤ℤ ((from +ℤ way) -ℤ low)
  pub low_one : (from -ℤ low ≡ reach) ⊎ ((from +ℤ way) -ℤ low ≡ reach)
  pub high_start : reach ≤ℤ (high -ℤ from)
  pub high_end : reach ≤ℤ (high -ℤ (from +ℤ way))
  pub high_one : (high -ℤ from ≡ reach) ⊎ (high -ℤ (from +ℤ way) ≡ reach)

pub record IsTightRectangle (e : Edges) (l : Line) (a : Area) : Type 0 where
  pub x_reach : ℤ
  pub y_reach : ℤ
  pub x_is : IsReach e (pos 0) (unsigned_abs l.dy) x_reach
  pub y_is : IsReach e (pos 0) (unsigned_abs l.dx) y_reach
  pub x_span : IsSpan l.x l.dx x_reach a.x0 a.x1
  pub y_span : IsSpan l.y l.dy y_reach a.y0 a.y1

-- edges at the start alone reach as far whatever the direction
level : (e : Edges) (t u : ℤ) (a : ℕ) (z : ℤ) → e.ahead ≡ pos 0 → IsPast e t a z → IsPast e u a z
level e t u a z h p =
    let s : e.ahead *ℤ t +ℤ e.far *ℤ pos a ≡ e.ahead *ℤ u +ℤ e.far *ℤ pos a = omega (arith, ints, ap (λ y. y *ℤ t) h, ap (λ y. y *ℤ u) h) in
    record { near_edge = p.near_edge; far_edge = rw s at p.far_edge }

level_more : (e : Edges) (u : ℤ) (a : ℕ) (y z : ℤ) → e.ahead ≡ pos 0 → y ≤ℤ z → IsPast e (pos 0) a y → IsPast e u a z
level_more e u a y z h l p = level e (pos 0) u a z h (past_more e (pos 0) a y z l p)

around_start : (e : Edges) (l : Line) (a : Area) → e.ahead ≡ pos 0 → IsTightRectangle e l a → IsAround e l.dx l.dy l.x l.y a
around_start e l a z h = record {
  east = level_more e l.dx (unsigned_abs l.dy) h.x_reach (a.x1 -ℤ l.x) z h.x_span.high_start h.x_is.past;
  west = level_more e (neg_ℤ l.dx) (unsigned_abs l.dy) h.x_reach (l.x -ℤ a.x0) z h.x_span.low_start h.x_is.past;
  north = level_more e l.dy (unsigned_abs l.dx) h.y_reach (a.y1 -ℤ l.y) z h.y_span.high_start h.y_is.past;
  south = level_more e (neg_ℤ l.dy) (unsigned_abs l.dx) h.y_reach (l.y -ℤ a.y0) z h.y_span.low_start h.y_is.past;
}

around_end : (e : Edges) (l : Line) (a : Area) → e.ahead ≡ pos 0 → IsTightRectangle e l a → IsAround e l.dx l.dy (l.x +ℤ l.dx) (l.y +ℤ l.dy) a
around_end e l a z h = record {
  east = level_more e l.dx (unsigned_abs l.dy) h.x_reach (a.x1 -ℤ (l.x +ℤ l.dx)) z h.x_span.high_end h.x_is.past;
  west = level_more e (neg_ℤ l.dx) (unsigned_abs l.dy) h.x_reach ((l.x +ℤ l.dx) -ℤ a.x0) z h.x_span.low_end h.x_is.past;
  north = level_more e l.dy (unsigned_abs l.dx) h.y_reach (a.y1 -ℤ (l.y +ℤ l.dy)) z h.y_span.high_end h.y_is.past;
  south = level_more e (neg_ℤ l.dy) (unsigned_abs l.dx) h.y_reach ((l.y +ℤ l.dy) -ℤ a.y0) z h.y_span.low_end h.y_is.past;
}

-- at either end of the line the corners are those of the near edge
end_holds : (r : Rectangle) (e : Edges) (x y left : ℤ) (a : Area) → AreRectangleEdges r e → unsigned_abs left ≡ unsigned_abs r.half → IsAround e r.line.dx r.line.dy x y a → HasCorner a (corner r.line r.scale x y (pos 0) left)
end_holds r e x y left a i s h =
    let t : unsigned_abs left ≡ unsigned_abs e.near = rw (← i.near_is) at s in
    rw (← i.scale_is, ← i.square_is) (near_corner e r.line.dx r.line.dy x y left a t h)

rectangle_holds : (r : Rectangle) (e : Edges) (a : Area) → AreRectangleEdges r e → IsTightRectangle e r.line a → HasRectangle r a
rectangle_holds r e a i h =
    let l = r.line in
    let start = around_start e l a i.ahead_is h in
    let end = around_end e l a i.ahead_is h in
    record {
      start_left = end_holds r e l.x l.y r.half a i refl start;
      start_right = end_holds r e l.x l.y (neg_ℤ r.half) a i (abs_neg r.half) start;
      end_left = end_holds r e (l.x +ℤ l.dx) (l.y +ℤ l.dy) r.half a i refl end;
      end_right = end_holds r e (l.x +ℤ l.dx) (l.y +ℤ l.dy) (neg_ℤ r.half) a i (abs_neg r.half) end;
    }

end_around : (r : Rectangle) (e : Edges) (x y : ℤ) (a : Area) → AreRectangleEdges r e → HasCorner a (corner r.line r.scale x y (pos 0) r.half) → HasCorner a (corner r.line r.scale x y (pos 0) (neg_ℤ r.half)) → IsAround e r.line.dx r.line.dy x y a
end_around r e x y a i h k =
    around_of e r.line.dx r.line.dy x y r.half r.half a (ap unsigned_abs (sym i.near_is)) (ap unsigned_abs (sym i.far_is))
    (rw (i.scale_is, i.square_is) h) (rw (i.scale_is, i.square_is) k)
    (rw (i.ahead_is, i.scale_is, i.square_is) h) (rw (i.ahead_is, i.scale_is, i.square_is) k)

-- a side that is there for one of two ends is no farther out than a side past both
farther_up : (l d r a b : ℤ) → (a -ℤ l ≡ r) ⊎ (a -ℤ (l +ℤ d) ≡ r) → r ≤ℤ (b -ℤ l) → r ≤ℤ (b -ℤ (l +ℤ d)) → a ≤ℤ b
farther_up l d r a b (inl h) p q = omega (arith, ints, h, p)
farther_up l d r a b (inr h) p q = omega (arith, ints, h, q)

farther_down : (l d r a b : ℤ) → (l -ℤ a ≡ r) ⊎ ((l +ℤ d) -ℤ a ≡ r) → r ≤ℤ (l -ℤ b) → r ≤ℤ ((l +ℤ d) -ℤ b) → b ≤ℤ a
farther_down l d r a b (inl h) p q = omega (arith, ints, h, p)
farther_down l d r a b (inr h) p q = omega (arith, ints, h, q)

pub rectangle_least : (r : Rectangle) (e : Edges) (a : Area) → AreRectangleEdges r e → IsTightRectangle e r.line a → IsLeastBox (HasRectangle r) a
rectangle_least r e a i h = record {
  holds = rectangle_holds r e a i h;
  least = λ (b : Area) (k : HasRectangle r b).
      let l = r.line in
      let s = end_around r e l.x l.y b i k.start_left k.start_right in
      let t = end_around r e (l.x +ℤ l.dx) (l.y +ℤ l.dy) b i k.end_left k.end_right in
      let e1 = h.x_is.least (b.x1 -ℤ l.x) (level e l.dx (pos 0) (unsigned_abs l.dy) (b.x1 -ℤ l.x) i.ahead_is s.east) in
      let e2 = h.x_is.least (b.x1 -ℤ (l.x +ℤ l.dx)) (level e l.dx (pos 0) (unsigned_abs l.dy) (b.x1 -ℤ (l.x +ℤ l.dx)) i.ahead_is t.east) in
      let w1 = h.x_is.least (l.x -ℤ b.x0) (level e (neg_ℤ l.dx) (pos 0) (unsigned_abs l.dy) (l.x -ℤ b.x0) i.ahead_is s.west) in
      let w2 = h.x_is.least ((l.x +ℤ l.dx) -ℤ b.x0) (level e (neg_ℤ l.dx) (pos 0) (unsigned_abs l.dy) ((l.x +ℤ l.dx) -ℤ b.x0) i.ahead_is t.west) in
      let n1 = h.y_is.least (b.y1 -ℤ l.y) (level e l.dy (pos 0) (unsigned_abs l.dx) (b.y1 -ℤ l.y) i.ahead_is s.north) in
      let n2 = h.y_is.least (b.y1 -ℤ (l.y +ℤ l.dy)) (level e l.dy (pos 0) (unsigned_abs l.dx) (b.y1 -ℤ (l.y +ℤ l.dy)) i.ahead_is t.north) in
      let s1 = h.y_is.least (l.y -ℤ b.y0) (level e (neg_ℤ l.dy) (pos 0) (unsigned_abs l.dx) (l.y -ℤ b.y0) i.ahead_is s.south) in
      let s2 = h.y_is.least ((l.y +ℤ l.dy) -ℤ b.y0) (level e (neg_ℤ l.dy) (pos 0) (unsigned_abs l.dx) ((l.y +ℤ l.dy) -ℤ b.y0) i.ahead_is t.south) in
      record {
        west = farther_down l.x l.dx h.x_reach a.x0 b.x0 h.x_span.low_one w1 w2;
        south = farther_down l.y l.dy h.y_reach a.y0 b.y0 h.y_span.low_one s1 s2;
        east = farther_up l.x l.dx h.x_reach a.x1 b.x1 h.x_span.high_one e1 e2;
        north = farther_up l.y l.dy h.y_reach a.y1 b.y1 h.y_span.high_one n1 n2;
      };
}

pub end_up : (a l d : ℤ) → a -ℤ (l +ℤ d) ≡ (a -ℤ l) -ℤ d
end_up a l d = omega (arith, ints)

pub end_down : (a l d : ℤ) → (l +ℤ d) -ℤ a ≡ (l -ℤ a) -ℤ neg_ℤ d
end_down a l d = omega (arith, ints)

rectangle_side : (r : Rectangle) (e : Edges) (f v y z m : ℤ) (q b : ℕ) → AreRectangleEdges r e → OnRectangle r (record { along = m; aside = q; square = square r.line }) →
    (pos (square r.line) *ℤ v) ≤ℤ (m *ℤ f +ℤ pos (q * b)) → IsPast e f b z → IsPast e f b y → y ≡ z -ℤ f → v ≤ℤ z
rectangle_side r e f v y z m q b i on big start end s =
    let n0 : 0 < square r.line = rw i.square_is at e.sized.line.some in
    let k0 : pos 0 <ℤ r.scale = rw i.scale_is at e.sized.scale_least in
    let h0 : pos 0 ≤ℤ r.half = rw i.near_is at e.sized.near_least in
    let near : AtMostRoot (r.half *ℤ pos b) (r.scale *ℤ z) (square r.line) = rw (i.near_is, i.scale_is, i.square_is) at start.near_edge in
    let far : AtMostRoot (r.half *ℤ pos b) (r.scale *ℤ (z -ℤ f)) (square r.line) = rw (i.near_is, i.scale_is, i.square_is, s) at end.near_edge in
    rectangle_east f v z m r.scale r.half q b (square r.line) n0 k0 h0 on.past_start on.before_end on.not_beside big near far

pub rectangle_has : (r : Rectangle) (e : Edges) (a : Area) → AreRectangleEdges r e → IsTightRectangle e r.line a → (x : Point) → OnRectangle r (offset r.line x) → Has a x
rectangle_has r e a i h x on =
    let l = r.line in
    let vx = x.x -ℤ l.x in
    let vy = x.y -ℤ l.y in
    let s = lies_so vx vy l.dx l.dy in
    let m = (offset l x).along in
    let q = (offset l x).aside in
    let start = around_start e l a i.ahead_is h in
    let end = around_end e l a i.ahead_is h in
    let east : vx ≤ℤ (a.x1 -ℤ l.x) = rectangle_side r e l.dx vx (a.x1 -ℤ (l.x +ℤ l.dx)) (a.x1 -ℤ l.x) m q (unsigned_abs l.dy) i on s.east start.east end.east (end_up a.x1 l.x l.dx) in
    let west : neg_ℤ vx ≤ℤ (l.x -ℤ a.x0) = rectangle_side r e (neg_ℤ l.dx) (neg_ℤ vx) ((l.x +ℤ l.dx) -ℤ a.x0) (l.x -ℤ a.x0) m q (unsigned_abs l.dy) i on s.west start.west end.west (end_down a.x0 l.x l.dx) in
    let north : vy ≤ℤ (a.y1 -ℤ l.y) = rectangle_side r e l.dy vy (a.y1 -ℤ (l.y +ℤ l.dy)) (a.y1 -ℤ l.y) m q (unsigned_abs l.dx) i on s.north start.north end.north (end_up a.y1 l.y l.dy) in
    let south : neg_ℤ vy ≤ℤ (l.y -ℤ a.y0) = rectangle_side r e (neg_ℤ l.dy) (neg_ℤ vy) ((l.y +ℤ l.dy) -ℤ a.y0) (l.y -ℤ a.y0) m q (unsigned_abs l.dx) i on s.south start.south end.south (end_down a.y0 l.y l.dy) in
    record { west = from_low x.x l.x a.x0 west; east = from_high x.x l.x a.x1 east; south = from_low x.y l.y a.y0 south; north = from_high x.y l.y a.y1 north }

-- ---- the box of two boxes
pub joined_least : (a b box : Area) → box.x0 ≡ int_min a.x0 b.x0 → box.y0 ≡ int_min a.y0 b.y0 → box.x1 ≡ int_max a.x1 b.x1 → box.y1 ≡ int_max a.y1 b.y1 → IsLeastBox (HoldsBoth a b) box
joined_least a b box w s e n = record {
  holds = record {
    first = record { west = lower_left a.x0 b.x0 box.x0 w; south = lower_left a.y0 b.y0 box.y0 s; east = upper_left a.x1 b.x1 box.x1 e; north = upper_left a.y1 b.y1 box.y1 n };
    second = record { west = lower_right a.x0 b.x0 box.x0 w; south = lower_right a.y0 b.y0 box.y0 s; east = upper_right a.x1 b.x1 box.x1 e; north = upper_right a.y1 b.y1 box.y1 n };
  };
  least = λ (o : Area) (h : HoldsBoth a b o). record {
    west = lower_both a.x0 b.x0 box.x0 o.x0 w h.first.west h.second.west;
    south = lower_both a.y0 b.y0 box.y0 o.y0 s h.first.south h.second.south;
    east = upper_both a.x1 b.x1 box.x1 o.x1 e h.first.east h.second.east;
    north = upper_both a.y1 b.y1 box.y1 o.y1 n h.first.north h.second.north;
  };
}
  where
    lower_left : (a b m : ℤ) → m ≡ int_min a b → m ≤ℤ a
    lower_left a b m e = omega (arith, ints, clamps, e)

    lower_right : (a b m : ℤ) → m ≡ int_min a b → m ≤ℤ b
    lower_right a b m e = omega (arith, ints, clamps, e)

    lower_both : (a b m o : ℤ) → m ≡ int_min a b → o ≤ℤ a → o ≤ℤ b → o ≤ℤ m
    lower_both a b m o e h k = omega (arith, ints, clamps, e, h, k)

    upper_left : (a b m : ℤ) → m ≡ int_max a b → a ≤ℤ m
    upper_left a b m e = omega (arith, ints, clamps, e)

    upper_right : (a b m : ℤ) → m ≡ int_max a b → b ≤ℤ m
    upper_right a b m e = omega (arith, ints, clamps, e)

    upper_both : (a b m o : ℤ) → m ≡ int_max a b → a ≤ℤ o → b ≤ℤ o → m ≤ℤ o
    upper_both a b m o e h k = omega (arith, ints, clamps, e, h, k)
