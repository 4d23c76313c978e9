-- Turns of three spots, and where a spot of a triangle lies by its corners.
use Rattle.std.proofs.Common.{◌≡◌, ℤ, pos, ◌+ℤ◌, ◌-ℤ◌, ◌*ℤ◌, ◌≤ℤ◌, ◌<ℤ◌, neg_ℤ, arith, ap}
use Rattle.std.proofs.Math.IntN.{*ℤ_comm}
use Rattle.std.proofs.lemmas.Int.{ints}
use Rattle.grid_exact.specs.Vector.{across_of}
use Rattle.grid_exact.proofs.IntLaws.{add-mul, mul-neg, mul-sub, mul_assoc, product_up, rotated, sign_of_product, sub-mul}
use Rattle.center_polygon.specs.Spots.{Spot}
use Rattle.center_polygon.specs.Triangles.{IsInside, turn}

pub turn_back : (x a b : Spot) → turn x a b ≡ neg_ℤ (turn x b a)
turn_back x a b = omega (arith, ints, *ℤ_comm (a.x -ℤ x.x) (b.y -ℤ x.y), *ℤ_comm (a.y -ℤ x.y) (b.x -ℤ x.x))

-- ---- seen from the fourth spot
-- the weights of its place among three corners
weights : (ax ay bx by dx dy : ℤ) → across_of bx by dx dy *ℤ ax +ℤ across_of dx dy ax ay *ℤ bx +ℤ across_of ax ay bx by *ℤ dx ≡ pos 0
weights ax ay bx by dx dy =
    omega (
      arith,
      ints,
      sub-mul (bx *ℤ dy) (by *ℤ dx) ax,
      sub-mul (dx *ℤ ay) (dy *ℤ ax) bx,
      sub-mul (ax *ℤ by) (ay *ℤ bx) dx,
      rotated bx dy ax,
      rotated ax by dx,
      rotated dx ay bx,
    )

weights_up : (ax ay bx by dx dy : ℤ) → across_of bx by dx dy *ℤ ay +ℤ across_of dx dy ax ay *ℤ by +ℤ across_of ax ay bx by *ℤ dy ≡ pos 0
weights_up ax ay bx by dx dy =
    omega (
      arith,
      ints,
      sub-mul (bx *ℤ dy) (by *ℤ dx) ay,
      sub-mul (dx *ℤ ay) (dy *ℤ ax) by,
      sub-mul (ax *ℤ by) (ay *ℤ bx) dy,
      rotated ay bx dy,
      rotated by dx ay,
      rotated dy ax by,
    )

-- the triangle's area is the sum of the three at the spot
differences : (ux uy vx vy ax ay : ℤ) → across_of (ux -ℤ ax) (uy -ℤ ay) (vx -ℤ ax) (vy -ℤ ay) ≡ across_of ux uy vx vy +ℤ across_of vx vy ax ay +ℤ across_of ax ay ux uy
differences ux uy vx vy ax ay =
    omega (
      arith,
      ints,
      sub-mul ux ax (vy -ℤ ay),
      mul-sub ux vy ay,
      mul-sub ax vy ay,
      sub-mul uy ay (vx -ℤ ax),
      mul-sub uy vx ax,
      mul-sub ay vx ax,
      *ℤ_comm ux ay,
      *ℤ_comm uy ax,
      *ℤ_comm vx ay,
      *ℤ_comm vy ax,
      *ℤ_comm ax ay,
    )

pub area_sum : (a b d x : Spot) → turn a b d ≡ turn x b d +ℤ turn x d a +ℤ turn x a b
area_sum a b d x =
    let h = differences (b.x -ℤ x.x) (b.y -ℤ x.y) (d.x -ℤ x.x) (d.y -ℤ x.y) (a.x -ℤ x.x) (a.y -ℤ x.y) in
    let e1 : (b.x -ℤ x.x) -ℤ (a.x -ℤ x.x) ≡ b.x -ℤ a.x = omega (arith, ints) in
    let e2 : (d.y -ℤ x.y) -ℤ (a.y -ℤ x.y) ≡ d.y -ℤ a.y = omega (arith, ints) in
    let e3 : (b.y -ℤ x.y) -ℤ (a.y -ℤ x.y) ≡ b.y -ℤ a.y = omega (arith, ints) in
    let e4 : (d.x -ℤ x.x) -ℤ (a.x -ℤ x.x) ≡ d.x -ℤ a.x = omega (arith, ints) in
    rw (e1, e2, e3, e4) at h

-- ---- three spots in other orders, and of which two are the same
pub turn_start : (a d : Spot) → turn a a d ≡ pos 0
turn_start a d =
    let zx : a.x -ℤ a.x ≡ pos 0 = omega (arith, ints) in
    let zy : a.y -ℤ a.y ≡ pos 0 = omega (arith, ints) in
    rw (zx, zy) (omega (arith, ints))

pub turn_home : (a d : Spot) → turn a d a ≡ pos 0
turn_home a d = omega (arith, ints, turn_back a d a, turn_start a d)

pub turn_round : (a b d : Spot) → turn a b d ≡ turn b d a
turn_round a b d = omega (arith, ints, area_sum a b d b, turn_start b d, turn_home b a)

-- ---- three weights that balance za, zb and zd: what is at least each is not negative, and what is at most each not positive
most_of : (f g h e za zb zd : ℤ) → pos 0 ≤ℤ f → pos 0 ≤ℤ g → pos 0 ≤ℤ h → pos 0 <ℤ (f +ℤ g +ℤ h) → za ≤ℤ e → zb ≤ℤ e → zd ≤ℤ e → f *ℤ za +ℤ g *ℤ zb +ℤ h *ℤ zd ≡ pos 0 → pos 0 ≤ℤ e
most_of f g h e za zb zd pf pg ph d ha hb hd z =
    sign_of_product (f +ℤ g +ℤ h) e d
    (omega (
      arith,
      ints,
      product_up f (e -ℤ za) pf (omega (arith, ints, ha)),
      product_up g (e -ℤ zb) pg (omega (arith, ints, hb)),
      product_up h (e -ℤ zd) ph (omega (arith, ints, hd)),
      z,
      mul-sub f e za,
      mul-sub g e zb,
      mul-sub h e zd,
      add-mul (f +ℤ g) h e,
      add-mul f g e,
    ))

-- ---- a spot in a triangle lies no farther east, west, north or south than the farthest of its corners
pub inside_east : (a b d x : Spot) (m : ℤ) → IsInside a b d x → a.x ≤ℤ m → b.x ≤ℤ m → d.x ≤ℤ m → x.x ≤ℤ m
inside_east a b d x m t ha hb hd =
    let sum : pos 0 <ℤ (turn x b d +ℤ turn x d a +ℤ turn x a b) = rw (area_sum a b d x) at t.proper in
    let h = most_of (turn x b d) (turn x d a) (turn x a b) (m -ℤ x.x) (a.x -ℤ x.x) (b.x -ℤ x.x) (d.x -ℤ x.x) t.second t.third t.first sum
    (omega (arith, ints, ha)) (omega (arith, ints, hb)) (omega (arith, ints, hd)) (weights (a.x -ℤ x.x) (a.y -ℤ x.y) (b.x -ℤ x.x) (b.y -ℤ x.y) (d.x -ℤ x.x) (d.y -ℤ x.y)) in
    omega (arith, ints, h)

pub inside_north : (a b d x : Spot) (m : ℤ) → IsInside a b d x → a.y ≤ℤ m → b.y ≤ℤ m → d.y ≤ℤ m → x.y ≤ℤ m
inside_north a b d x m t ha hb hd =
    let sum : pos 0 <ℤ (turn x b d +ℤ turn x d a +ℤ turn x a b) = rw (area_sum a b d x) at t.proper in
    let h = most_of (turn x b d) (turn x d a) (turn x a b) (m -ℤ x.y) (a.y -ℤ x.y) (b.y -ℤ x.y) (d.y -ℤ x.y) t.second t.third t.first sum
    (omega (arith, ints, ha)) (omega (arith, ints, hb)) (omega (arith, ints, hd)) (weights_up (a.x -ℤ x.x) (a.y -ℤ x.y) (b.x -ℤ x.x) (b.y -ℤ x.y) (d.x -ℤ x.x) (d.y -ℤ x.y)) in
    omega (arith, ints, h)

weights_back : (f g h u v w : ℤ) → f *ℤ u +ℤ g *ℤ v +ℤ h *ℤ w ≡ pos 0 → f *ℤ neg_ℤ u +ℤ g *ℤ neg_ℤ v +ℤ h *ℤ neg_ℤ w ≡ pos 0
weights_back f g h u v w e = omega (arith, ints, mul-neg f u, mul-neg g v, mul-neg h w, e)

pub inside_west : (a b d x : Spot) (m : ℤ) → IsInside a b d x → m ≤ℤ a.x → m ≤ℤ b.x → m ≤ℤ d.x → m ≤ℤ x.x
inside_west a b d x m t ha hb hd =
    let sum : pos 0 <ℤ (turn x b d +ℤ turn x d a +ℤ turn x a b) = rw (area_sum a b d x) at t.proper in
    let h = most_of (turn x b d) (turn x d a) (turn x a b) (x.x -ℤ m) (neg_ℤ (a.x -ℤ x.x)) (neg_ℤ (b.x -ℤ x.x)) (neg_ℤ (d.x -ℤ x.x)) t.second t.third t.first sum
    (omega (arith, ints, ha)) (omega (arith, ints, hb)) (omega (arith, ints, hd))
    (weights_back (turn x b d) (turn x d a) (turn x a b) (a.x -ℤ x.x) (b.x -ℤ x.x) (d.x -ℤ x.x) (weights (a.x -ℤ x.x) (a.y -ℤ x.y) (b.x -ℤ x.x) (b.y -ℤ x.y) (d.x -ℤ x.x) (d.y -ℤ x.y))) in
    omega (arith, ints, h)

pub inside_south : (a b d x : Spot) (m : ℤ) → IsInside a b d x → m ≤ℤ a.y → m ≤ℤ b.y → m ≤ℤ d.y → m ≤ℤ x.y
inside_south a b d x m t ha hb hd =
    let sum : pos 0 <ℤ (turn x b d +ℤ turn x d a +ℤ turn x a b) = rw (area_sum a b d x) at t.proper in
    let h = most_of (turn x b d) (turn x d a) (turn x a b) (x.y -ℤ m) (neg_ℤ (a.y -ℤ x.y)) (neg_ℤ (b.y -ℤ x.y)) (neg_ℤ (d.y -ℤ x.y)) t.second t.third t.first sum
    (omega (arith, ints, ha)) (omega (arith, ints, hb)) (omega (arith, ints, hd))
    (weights_back (turn x b d) (turn x d a) (turn x a b) (a.y -ℤ x.y) (b.y -ℤ x.y) (d.y -ℤ x.y) (weights_up (a.x -ℤ x.x) (a.y -ℤ x.y) (b.x -ℤ x.x) (b.y -ℤ x.y) (d.x -ℤ x.x) (d.y -ℤ x.y))) in
    omega (arith, ints, h)

-- ---- where the three corners are on the inner side of an edge, the spot is
-- weights that balance the corners balance each product with a vector
balance : (f g h ax ay bx by dx dy wx wy : ℤ) → f *ℤ ax +ℤ g *ℤ bx +ℤ h *ℤ dx ≡ pos 0 → f *ℤ ay +ℤ g *ℤ by +ℤ h *ℤ dy ≡ pos 0 →
    f *ℤ across_of ax ay wx wy +ℤ g *ℤ across_of bx by wx wy +ℤ h *ℤ across_of dx dy wx wy ≡ pos 0
balance f g h ax ay bx by dx dy wx wy ex ey =
    let zx : (f *ℤ ax +ℤ g *ℤ bx +ℤ h *ℤ dx) *ℤ wy ≡ pos 0 *ℤ wy = ap (λ z. z *ℤ wy) ex in
    let zy : (f *ℤ ay +ℤ g *ℤ by +ℤ h *ℤ dy) *ℤ wx ≡ pos 0 *ℤ wx = ap (λ z. z *ℤ wx) ey in
    omega (
      arith,
      ints,
      zx,
      zy,
      add-mul (f *ℤ ax +ℤ g *ℤ bx) (h *ℤ dx) wy,
      add-mul (f *ℤ ax) (g *ℤ bx) wy,
      add-mul (f *ℤ ay +ℤ g *ℤ by) (h *ℤ dy) wx,
      add-mul (f *ℤ ay) (g *ℤ by) wx,
      mul-sub f (ax *ℤ wy) (ay *ℤ wx),
      mul-sub g (bx *ℤ wy) (by *ℤ wx),
      mul-sub h (dx *ℤ wy) (dy *ℤ wx),
      mul_assoc f ax wy,
      mul_assoc f ay wx,
      mul_assoc g bx wy,
      mul_assoc g by wx,
      mul_assoc h dx wy,
      mul_assoc h dy wx,
    )

-- a turn seen from a corner in place of the spot
shifted : (ux uy vx vy ax ay : ℤ) → across_of (ux -ℤ ax) (uy -ℤ ay) (vx -ℤ ax) (vy -ℤ ay) ≡ across_of ux uy vx vy -ℤ across_of ax ay (vx -ℤ ux) (vy -ℤ uy)
shifted ux uy vx vy ax ay =
    omega (arith, ints, differences ux uy vx vy ax ay, mul-sub ax vy uy, mul-sub ay vx ux, *ℤ_comm vx ay, *ℤ_comm vy ax)

turn_shifted : (x a u v : Spot) → turn a u v ≡ turn x u v -ℤ across_of (a.x -ℤ x.x) (a.y -ℤ x.y) (v.x -ℤ u.x) (v.y -ℤ u.y)
turn_shifted x a u v =
    let e1 : (u.x -ℤ x.x) -ℤ (a.x -ℤ x.x) ≡ u.x -ℤ a.x = omega (arith, ints) in
    let e2 : (v.y -ℤ x.y) -ℤ (a.y -ℤ x.y) ≡ v.y -ℤ a.y = omega (arith, ints) in
    let e3 : (u.y -ℤ x.y) -ℤ (a.y -ℤ x.y) ≡ u.y -ℤ a.y = omega (arith, ints) in
    let e4 : (v.x -ℤ x.x) -ℤ (a.x -ℤ x.x) ≡ v.x -ℤ a.x = omega (arith, ints) in
    let e5 : (v.y -ℤ x.y) -ℤ (u.y -ℤ x.y) ≡ v.y -ℤ u.y = omega (arith, ints) in
    let e6 : (v.x -ℤ x.x) -ℤ (u.x -ℤ x.x) ≡ v.x -ℤ u.x = omega (arith, ints) in
    rw (e1, e2, e3, e4, e5, e6) at (shifted (u.x -ℤ x.x) (u.y -ℤ x.y) (v.x -ℤ x.x) (v.y -ℤ x.y) (a.x -ℤ x.x) (a.y -ℤ x.y))

-- the corner's share is at most the spot's turn
share : (t z s : ℤ) → t ≡ s -ℤ z → pos 0 ≤ℤ t → z ≤ℤ s
share t z s e h = omega (arith, ints, e, h)

pub inside_edge : (a b d x u v : Spot) → IsInside a b d x → pos 0 ≤ℤ turn a u v → pos 0 ≤ℤ turn b u v → pos 0 ≤ℤ turn d u v → pos 0 ≤ℤ turn x u v
inside_edge a b d x u v t ha hb hd =
    let sum : pos 0 <ℤ (turn x b d +ℤ turn x d a +ℤ turn x a b) = rw (area_sum a b d x) at t.proper in
    let za : ℤ = across_of (a.x -ℤ x.x) (a.y -ℤ x.y) (v.x -ℤ u.x) (v.y -ℤ u.y) in
    let zb : ℤ = across_of (b.x -ℤ x.x) (b.y -ℤ x.y) (v.x -ℤ u.x) (v.y -ℤ u.y) in
    let zd : ℤ = across_of (d.x -ℤ x.x) (d.y -ℤ x.y) (v.x -ℤ u.x) (v.y -ℤ u.y) in
    most_of (turn x b d) (turn x d a) (turn x a b) (turn x u v) za zb zd t.second t.third t.first sum
    (share (turn a u v) za (turn x u v) (turn_shifted x a u v) ha) (share (turn b u v) zb (turn x u v) (turn_shifted x b u v) hb) (share (turn d u v) zd (turn x u v) (turn_shifted x d u v) hd)
    (balance (turn x b d) (turn x d a) (turn x a b) (a.x -ℤ x.x) (a.y -ℤ x.y) (b.x -ℤ x.x) (b.y -ℤ x.y) (d.x -ℤ x.x) (d.y -ℤ x.y) (v.x -ℤ u.x) (v.y -ℤ u.y)
    (weights (a.x -ℤ x.x) (a.y -ℤ x.y) (b.x -ℤ x.x) (b.y -ℤ x.y) (d.x -ℤ x.x) (d.y -ℤ x.y))
    (weights_up (a.x -ℤ x.x) (a.y -ℤ x.y) (b.x -ℤ x.x) (b.y -ℤ x.y) (d.x -ℤ x.x) (d.y -ℤ x.y)))
