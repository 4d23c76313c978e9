-- What a box holds, every box about it holds.
use Rattle.std.proofs.Common.{◌≡◌, ℕ, ℤ, pos, ◌+ℤ◌, ◌-ℤ◌, ◌*ℤ◌, ◌≤ℤ◌, ◌<ℤ◌, arith}
use Rattle.std.proofs.lemmas.Int.{ints}
use Rattle.grid_exact.specs.Area.{Has}
use Rattle.grid_exact.specs.declared.area.Area.{Area}
use Rattle.grid_exact.specs.declared.point.Point.{Point}
use Rattle.grid_exact.specs.Root.{signed_square, AtLeastRoot}
use Rattle.grid_exact.proofs.IntLaws.{mul-le_left, mul-le_right, signed_square_le}
use Rattle.grid_exact.proofs.RootOrder.{AtMostRoot_more}
use Rattle.outline_boxes.specs.Boxes.{Encloses, HoldsBoth, IsLeastBox, shrunk}
use Rattle.outline_boxes.specs.Corners.{Coordinate, Corner, HasCorner, IsFrom, IsUpTo}
use Rattle.outline_boxes.specs.Rectangles.{Rectangle, HasRectangle, HasRectangleWithin}
use Rattle.outline_boxes.specs.Trapezoids.{Trapezoid, HasTrapezoid, HasBoxAndTrapezoid}

pub Has_more : (outer inner : Area) (x : Point) → Encloses outer inner → Has inner x → Has outer x
Has_more outer inner x e h = record { west = omega (arith, ints, e.west, h.west); east = omega (arith, ints, e.east, h.east); south = omega (arith, ints, e.south, h.south); north = omega (arith, ints, e.north, h.north) }

pub Encloses_through : (a b c : Area) → Encloses a b → Encloses b c → Encloses a c
Encloses_through a b c h k = record { west = omega (arith, ints, h.west, k.west); east = omega (arith, ints, h.east, k.east); south = omega (arith, ints, h.south, k.south); north = omega (arith, ints, h.north, k.north) }

AtLeastRoot_fewer : (a b b' : ℤ) (n : ℕ) → b ≤ℤ b' → AtLeastRoot a b' n → AtLeastRoot a b n
AtLeastRoot_fewer a b b' n h k = record { at_least = omega (arith, ints, mul-le_right (signed_square b) (signed_square b') n (signed_square_le b b' h), k.at_least) }

up_more : (c : Coordinate) (y z : ℤ) → pos 0 <ℤ c.scale → y ≤ℤ z → IsUpTo c y → IsUpTo c z
up_more c y z p h r = AtMostRoot_more c.part (c.scale *ℤ (y -ℤ c.base)) (c.scale *ℤ (z -ℤ c.base)) c.square (mul-le_left c.scale (y -ℤ c.base) (z -ℤ c.base) p (omega (arith, ints, h))) r

from_more : (c : Coordinate) (y z : ℤ) → pos 0 <ℤ c.scale → y ≤ℤ z → IsFrom c z → IsFrom c y
from_more c y z p h r = AtLeastRoot_fewer c.part (c.scale *ℤ (y -ℤ c.base)) (c.scale *ℤ (z -ℤ c.base)) c.square (mul-le_left c.scale (y -ℤ c.base) (z -ℤ c.base) p (omega (arith, ints, h))) r

HasCorner_more : (outer inner : Area) (c : Corner) → pos 0 <ℤ c.x.scale → pos 0 <ℤ c.y.scale → Encloses outer inner → HasCorner inner c → HasCorner outer c
HasCorner_more outer inner c p q e h = record {
  west = from_more c.x outer.x0 inner.x0 p e.west h.west;
  east = up_more c.x inner.x1 outer.x1 p e.east h.east;
  south = from_more c.y outer.y0 inner.y0 q e.south h.south;
  north = up_more c.y inner.y1 outer.y1 q e.north h.north;
}

pub HasTrapezoid_more : (t : Trapezoid) (outer inner : Area) → pos 0 <ℤ t.scale → Encloses outer inner → HasTrapezoid t inner → HasTrapezoid t outer
HasTrapezoid_more t outer inner p e h = record {
  near_left = HasCorner_more outer inner _ p p e h.near_left;
  near_right = HasCorner_more outer inner _ p p e h.near_right;
  far_left = HasCorner_more outer inner _ p p e h.far_left;
  far_right = HasCorner_more outer inner _ p p e h.far_right;
}

pub HasRectangle_more : (r : Rectangle) (outer inner : Area) → pos 0 <ℤ r.scale → Encloses outer inner → HasRectangle r inner → HasRectangle r outer
HasRectangle_more r outer inner p e h = record {
  start_left = HasCorner_more outer inner _ p p e h.start_left;
  start_right = HasCorner_more outer inner _ p p e h.start_right;
  end_left = HasCorner_more outer inner _ p p e h.end_left;
  end_right = HasCorner_more outer inner _ p p e h.end_right;
}

pub with_box : (held a box : Area) (t : Trapezoid) → pos 0 <ℤ t.scale → IsLeastBox (HasTrapezoid t) a → IsLeastBox (HoldsBoth held a) box → IsLeastBox (HasBoxAndTrapezoid held t) box
with_box held a box t p h k = record {
  holds = record { box = k.holds.first; corners = HasTrapezoid_more t box a p k.holds.second h.holds };
  least = λ (o : Area) (g : HasBoxAndTrapezoid held t o). k.least o (record { first = g.box; second = h.least o g.corners });
}

pub record IsWidened (a : Area) (margin : ℤ) (box : Area) : Type 0 where
  pub west : box.x0 ≡ a.x0 -ℤ margin
  pub south : box.y0 ≡ a.y0 -ℤ margin
  pub east : box.x1 ≡ a.x1 +ℤ margin
  pub north : box.y1 ≡ a.y1 +ℤ margin

pub with_margin : (a box : Area) (margin : ℤ) (r : Rectangle) → pos 0 <ℤ r.scale → IsWidened a margin box → IsLeastBox (HasRectangle r) a → IsLeastBox (HasRectangleWithin r margin) box
with_margin a box margin r p w h = record {
  holds = HasRectangle_more r (shrunk box margin) a p (inner a box margin w) h.holds;
  least = λ (o : Area) (g : HasRectangleWithin r margin o). outer a box o margin w (h.least (shrunk o margin) g);
}
  where
    inner : (a box : Area) (margin : ℤ) → IsWidened a margin box → Encloses (shrunk box margin) a
    inner a box margin w = record { west = omega (arith, ints, w.west); south = omega (arith, ints, w.south); east = omega (arith, ints, w.east); north = omega (arith, ints, w.north) }

    outer : (a box o : Area) (margin : ℤ) → IsWidened a margin box → Encloses (shrunk o margin) a → Encloses o box
    outer a box o margin w e = record {
      west = omega (arith, ints, w.west, e.west);
      south = omega (arith, ints, w.south, e.south);
      east = omega (arith, ints, w.east, e.east);
      north = omega (arith, ints, w.north, e.north);
    }
