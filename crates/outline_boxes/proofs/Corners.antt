-- What holds the corners of two edges, and the other way round, over plain numbers.
use Rattle.std.proofs.Common.{◌≡◌, ℕ, ℤ, pos, negsuc, ◌*◌, ◌+ℤ◌, ◌-ℤ◌, ◌*ℤ◌, ◌≤ℤ◌, neg_ℤ, unsigned_abs, arith, ap, refl}
use Rattle.std.proofs.Math.IntN.{*ℤ_comm}
use Rattle.std.proofs.lemmas.Int.{ints, by_lt_z, unsigned_abs-mul}
use Rattle.grid_exact.specs.Root.{AtLeastRoot, AtMostRoot}
use Rattle.grid_exact.specs.Lines.{square}
use Rattle.grid_exact.specs.declared.area.Area.{Area}
use Rattle.grid_exact.proofs.IntLaws.{abs_neg, mul-neg, mul-sub}
use Rattle.grid_exact.proofs.RootOrder.{AtLeastRoot-neg, AtMostRoot-neg, AtMostRoot_less}
use Rattle.outline_boxes.specs.declared.edges.Edges.{Edges}
use Rattle.outline_boxes.specs.Corners.{Corner, HasCorner, corner}
use Rattle.outline_boxes.specs.Rectangles.{Rectangle, HasRectangle}
use Rattle.outline_boxes.specs.Reaches.{IsPast}

-- ---- one coordinate: the corners at l and at -l to the left of the line, `ahead` of the base, are up to B where the farther one is
side : (l a half : ℤ) → pos 0 ≤ℤ half → unsigned_abs l ≡ unsigned_abs half → pos (unsigned_abs (l *ℤ a)) ≡ half *ℤ pos (unsigned_abs a)
side l a (pos h) p e = omega (arith, ints, unsigned_abs-mul l a, ap (λ x. x * unsigned_abs a) e)
side l a (negsuc h) p e = absurd (omega (arith, ints, p))

neg-left : (l a : ℤ) → neg_ℤ l *ℤ a ≡ neg_ℤ (l *ℤ a)
neg-left l a = omega (arith, ints, *ℤ_comm (neg_ℤ l) a, mul-neg a l, *ℤ_comm a l)

corner_up : (u l a half B : ℤ) (n : ℕ) → pos 0 ≤ℤ half → unsigned_abs l ≡ unsigned_abs half → AtMostRoot (u +ℤ half *ℤ pos (unsigned_abs a)) B n → AtMostRoot (u -ℤ l *ℤ a) B n
corner_up u l a half B n p e h = AtMostRoot_less (u +ℤ half *ℤ pos (unsigned_abs a)) (u -ℤ l *ℤ a) B n (omega (arith, ints, side l a half p e)) h

corners_up : (u l a half B : ℤ) (n : ℕ) → pos 0 ≤ℤ half → unsigned_abs l ≡ unsigned_abs half → AtMostRoot (u -ℤ l *ℤ a) B n → AtMostRoot (u -ℤ neg_ℤ l *ℤ a) B n → AtMostRoot (u +ℤ half *ℤ pos (unsigned_abs a)) B n
corners_up u l a half B n p e h k =
    by_lt_z (pos 0) (l *ℤ a)
    (λ up. AtMostRoot_less (u -ℤ neg_ℤ l *ℤ a) (u +ℤ half *ℤ pos (unsigned_abs a)) B n (omega (arith, ints, side l a half p e, neg-left l a, up)) k)
    (λ down. AtMostRoot_less (u -ℤ l *ℤ a) (u +ℤ half *ℤ pos (unsigned_abs a)) B n (omega (arith, ints, side l a half p e, down)) h)

-- ---- the same downward
opposite : (ahead t l a : ℤ) → neg_ℤ (ahead *ℤ neg_ℤ t -ℤ neg_ℤ l *ℤ a) ≡ ahead *ℤ t -ℤ l *ℤ a
opposite ahead t l a = omega (arith, ints, mul-neg ahead t, neg-left l a)

back : (k z base : ℤ) → neg_ℤ (k *ℤ (base -ℤ z)) ≡ k *ℤ (z -ℤ base)
back k z base = omega (arith, ints, mul-sub k base z, mul-sub k z base)

corner_down : (ahead t l a half k z base : ℤ) (n : ℕ) → pos 0 ≤ℤ half → unsigned_abs l ≡ unsigned_abs half → AtMostRoot (ahead *ℤ neg_ℤ t +ℤ half *ℤ pos (unsigned_abs a)) (k *ℤ (base -ℤ z)) n → AtLeastRoot (ahead *ℤ t -ℤ l *ℤ a) (k *ℤ (z -ℤ base)) n
corner_down ahead t l a half k z base n p e h =
    let s : unsigned_abs (neg_ℤ l) ≡ unsigned_abs half = rw abs_neg e in
    let u : AtMostRoot (ahead *ℤ neg_ℤ t -ℤ neg_ℤ l *ℤ a) (k *ℤ (base -ℤ z)) n = corner_up (ahead *ℤ neg_ℤ t) (neg_ℤ l) a half (k *ℤ (base -ℤ z)) n p s h in
    rw (opposite ahead t l a, back k z base) at (AtLeastRoot-neg (ahead *ℤ neg_ℤ t -ℤ neg_ℤ l *ℤ a) (k *ℤ (base -ℤ z)) n u)

turned_back : (ahead t l a k z base : ℤ) (n : ℕ) → AtLeastRoot (ahead *ℤ t -ℤ l *ℤ a) (k *ℤ (z -ℤ base)) n → AtMostRoot (ahead *ℤ neg_ℤ t -ℤ neg_ℤ l *ℤ a) (k *ℤ (base -ℤ z)) n
turned_back ahead t l a k z base n h =
    let e1 : neg_ℤ (ahead *ℤ t -ℤ l *ℤ a) ≡ ahead *ℤ neg_ℤ t -ℤ neg_ℤ l *ℤ a = omega (arith, ints, mul-neg ahead t, neg-left l a) in
    rw (e1, back k base z) at (AtMostRoot-neg (ahead *ℤ t -ℤ l *ℤ a) (k *ℤ (z -ℤ base)) n h)

corners_down : (ahead t l a half k z base : ℤ) (n : ℕ) → pos 0 ≤ℤ half → unsigned_abs l ≡ unsigned_abs half → AtLeastRoot (ahead *ℤ t -ℤ l *ℤ a) (k *ℤ (z -ℤ base)) n → AtLeastRoot (ahead *ℤ t -ℤ neg_ℤ l *ℤ a) (k *ℤ (z -ℤ base)) n → AtMostRoot (ahead *ℤ neg_ℤ t +ℤ half *ℤ pos (unsigned_abs a)) (k *ℤ (base -ℤ z)) n
corners_down ahead t l a half k z base n p e h g =
    let s : unsigned_abs (neg_ℤ l) ≡ unsigned_abs half = rw abs_neg e in
    corners_up (ahead *ℤ neg_ℤ t) (neg_ℤ l) a half (k *ℤ (base -ℤ z)) n p s (turned_back ahead t l a k z base n h) (turned_back ahead t (neg_ℤ l) a k z base n g)

-- ---- both coordinates: a box that is past the edges of an outline with this base, on all four sides
pub record IsAround (e : Edges) (dx dy x y : ℤ) (a : Area) : Type 0 where
  pub east : IsPast e dx (unsigned_abs dy) (a.x1 -ℤ x)
  pub west : IsPast e (neg_ℤ dx) (unsigned_abs dy) (x -ℤ a.x0)
  pub north : IsPast e dy (unsigned_abs dx) (a.y1 -ℤ y)
  pub south : IsPast e (neg_ℤ dy) (unsigned_abs dx) (y -ℤ a.y0)

abbrev pub corner_of : Edges → (dx dy x y ahead left : ℤ) → Corner
corner_of e dx dy x y ahead left = record {
  x = record { base = x; part = ahead *ℤ dx -ℤ left *ℤ dy; scale = e.scale; square = e.square };
  y = record { base = y; part = ahead *ℤ dy -ℤ neg_ℤ left *ℤ dx; scale = e.scale; square = e.square };
}

none : (t x : ℤ) → x ≡ pos 0 *ℤ t +ℤ x
none t x = omega (arith, ints)

pub far_corner : (e : Edges) (dx dy x y left : ℤ) (a : Area) → unsigned_abs left ≡ unsigned_abs e.far → IsAround e dx dy x y a → HasCorner a (corner_of e dx dy x y e.ahead left)
far_corner e dx dy x y left a s h =
    let p : pos 0 ≤ℤ e.far = omega (arith, ints, e.sized) in
    let t : unsigned_abs (neg_ℤ left) ≡ unsigned_abs e.far = rw abs_neg s in
    record {
      west = corner_down e.ahead dx left dy e.far e.scale a.x0 x e.square p s h.west.far_edge;
      east = corner_up (e.ahead *ℤ dx) left dy e.far (e.scale *ℤ (a.x1 -ℤ x)) e.square p s h.east.far_edge;
      south = corner_down e.ahead dy (neg_ℤ left) dx e.far e.scale a.y0 y e.square p t h.south.far_edge;
      north = corner_up (e.ahead *ℤ dy) (neg_ℤ left) dx e.far (e.scale *ℤ (a.y1 -ℤ y)) e.square p t h.north.far_edge;
    }

pub near_corner : (e : Edges) (dx dy x y left : ℤ) (a : Area) → unsigned_abs left ≡ unsigned_abs e.near → IsAround e dx dy x y a → HasCorner a (corner_of e dx dy x y (pos 0) left)
near_corner e dx dy x y left a s h =
    let p : pos 0 ≤ℤ e.near = omega (arith, ints, e.sized) in
    let t : unsigned_abs (neg_ℤ left) ≡ unsigned_abs e.near = rw abs_neg s in
    record {
      west = corner_down (pos 0) dx left dy e.near e.scale a.x0 x e.square p s (rw (← none (neg_ℤ dx) (e.near *ℤ pos (unsigned_abs dy))) h.west.near_edge);
      east = corner_up (pos 0 *ℤ dx) left dy e.near (e.scale *ℤ (a.x1 -ℤ x)) e.square p s (rw (← none dx (e.near *ℤ pos (unsigned_abs dy))) h.east.near_edge);
      south = corner_down (pos 0) dy (neg_ℤ left) dx e.near e.scale a.y0 y e.square p t (rw (← none (neg_ℤ dy) (e.near *ℤ pos (unsigned_abs dx))) h.south.near_edge);
      north = corner_up (pos 0 *ℤ dy) (neg_ℤ left) dx e.near (e.scale *ℤ (a.y1 -ℤ y)) e.square p t (rw (← none dy (e.near *ℤ pos (unsigned_abs dx))) h.north.near_edge);
    }

-- and the other way round
pub around_of : (e : Edges) (dx dy x y near far : ℤ) (a : Area) → unsigned_abs near ≡ unsigned_abs e.near → unsigned_abs far ≡ unsigned_abs e.far →
    HasCorner a (corner_of e dx dy x y (pos 0) near) → HasCorner a (corner_of e dx dy x y (pos 0) (neg_ℤ near)) →
    HasCorner a (corner_of e dx dy x y e.ahead far) → HasCorner a (corner_of e dx dy x y e.ahead (neg_ℤ far)) → IsAround e dx dy x y a
around_of e dx dy x y near far a s t nl nr fl fr =
    let p : pos 0 ≤ℤ e.near = omega (arith, ints, e.sized) in
    let q : pos 0 ≤ℤ e.far = omega (arith, ints, e.sized) in
    let s' : unsigned_abs (neg_ℤ near) ≡ unsigned_abs e.near = rw abs_neg s in
    let t' : unsigned_abs (neg_ℤ far) ≡ unsigned_abs e.far = rw abs_neg t in
    record {
      east = record {
        near_edge = rw (none dx (e.near *ℤ pos (unsigned_abs dy))) (corners_up (pos 0 *ℤ dx) near dy e.near (e.scale *ℤ (a.x1 -ℤ x)) e.square p s nl.east nr.east);
        far_edge = corners_up (e.ahead *ℤ dx) far dy e.far (e.scale *ℤ (a.x1 -ℤ x)) e.square q t fl.east fr.east;
      };
      west = record {
        near_edge = rw (none (neg_ℤ dx) (e.near *ℤ pos (unsigned_abs dy))) (corners_down (pos 0) dx near dy e.near e.scale a.x0 x e.square p s nl.west nr.west);
        far_edge = corners_down e.ahead dx far dy e.far e.scale a.x0 x e.square q t fl.west fr.west;
      };
      north = record {
        near_edge = rw (none dy (e.near *ℤ pos (unsigned_abs dx))) (corners_up (pos 0 *ℤ dy) (neg_ℤ near) dx e.near (e.scale *ℤ (a.y1 -ℤ y)) e.square p s' nl.north nr.north);
        far_edge = corners_up (e.ahead *ℤ dy) (neg_ℤ far) dx e.far (e.scale *ℤ (a.y1 -ℤ y)) e.square q t' fl.north fr.north;
      };
      south = record {
        near_edge = rw (none (neg_ℤ dy) (e.near *ℤ pos (unsigned_abs dx))) (corners_down (pos 0) dy (neg_ℤ near) dx e.near e.scale a.y0 y e.square p s' nl.south nr.south);
        far_edge = corners_down e.ahead dy (neg_ℤ far) dx e.far e.scale a.y0 y e.square q t' fl.south fr.south;
      };
    }

-- ---- what the corners at one end of a rectangle say of its box
pub record EndBounds (r : Rectangle) (x y : ℤ) (a : Area) : Type 0 where
  pub east : AtMostRoot (r.half *ℤ pos (unsigned_abs r.line.dy)) (r.scale *ℤ (a.x1 -ℤ x)) (square r.line)
  pub west : AtMostRoot (r.half *ℤ pos (unsigned_abs r.line.dy)) (r.scale *ℤ (x -ℤ a.x0)) (square r.line)
  pub north : AtMostRoot (r.half *ℤ pos (unsigned_abs r.line.dx)) (r.scale *ℤ (a.y1 -ℤ y)) (square r.line)
  pub south : AtMostRoot (r.half *ℤ pos (unsigned_abs r.line.dx)) (r.scale *ℤ (y -ℤ a.y0)) (square r.line)

end_bounds : (r : Rectangle) (x y : ℤ) (a : Area) → pos 0 ≤ℤ r.half → HasCorner a (corner r.line r.scale x y (pos 0) r.half) → HasCorner a (corner r.line r.scale x y (pos 0) (neg_ℤ r.half)) → EndBounds r x y a
end_bounds r x y a p left right =
    let l = r.line in
    let dx = pos (unsigned_abs l.dx) in
    let dy = pos (unsigned_abs l.dy) in
    record {
      east = rw (none l.dx (r.half *ℤ dy)) (corners_up (pos 0 *ℤ l.dx) r.half l.dy r.half (r.scale *ℤ (a.x1 -ℤ x)) (square l) p refl left.east right.east);
      west = rw (none (neg_ℤ l.dx) (r.half *ℤ dy)) (corners_down (pos 0) l.dx r.half l.dy r.half r.scale a.x0 x (square l) p refl left.west right.west);
      north = rw (none l.dy (r.half *ℤ dx)) (corners_up (pos 0 *ℤ l.dy) (neg_ℤ r.half) l.dx r.half (r.scale *ℤ (a.y1 -ℤ y)) (square l) p (abs_neg r.half) left.north right.north);
      south = rw (none (neg_ℤ l.dy) (r.half *ℤ dx)) (corners_down (pos 0) l.dy (neg_ℤ r.half) l.dx r.half r.scale a.y0 y (square l) p (abs_neg r.half) left.south right.south);
    }

pub start_bounds : (r : Rectangle) (a : Area) → pos 0 ≤ℤ r.half → HasRectangle r a → EndBounds r r.line.x r.line.y a
start_bounds r a p h = end_bounds r r.line.x r.line.y a p h.start_left h.start_right

pub far_bounds : (r : Rectangle) (a : Area) → pos 0 ≤ℤ r.half → HasRectangle r a → EndBounds r (r.line.x +ℤ r.line.dx) (r.line.y +ℤ r.line.dy) a
far_bounds r a p h = end_bounds r (r.line.x +ℤ r.line.dx) (r.line.y +ℤ r.line.dy) a p h.end_left h.end_right
