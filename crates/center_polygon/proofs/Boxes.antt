-- The polygon of some spots lies in each box that has them.
use Rattle.std.proofs.Common.{inl, inr, List, ◌≤ℤ◌}
use Rattle.std.specs.List.{All}
use Rattle.grid_exact.specs.declared.area.Area.{Area}
use Rattle.grid_exact.specs.declared.point.Point.{Point}
use Rattle.grid_exact.specs.Area.{Has}
use Rattle.center_polygon.specs.Spots.{Spot, at}
use Rattle.center_polygon.specs.Triangles.{InSomeTriangle, InTriangle, IsInside}
use Rattle.center_polygon.proofs.SomeFacts.{SomeThree_elim}
use Rattle.center_polygon.proofs.Turns.{inside_east, inside_north, inside_south, inside_west}

pub record HasSpot (box : Area) (s : Spot) : Type 0 where
  pub west : box.x0 ≤ℤ s.x
  pub east : s.x ≤ℤ box.x1
  pub south : box.y0 ≤ℤ s.y
  pub north : s.y ≤ℤ box.y1

inside_box : (box : Area) (x : Point) (a b d : Spot) → HasSpot box a → HasSpot box b → HasSpot box d → IsInside a b d (at x) → Has box x
inside_box box x a b d ha hb hd t = record {
  west = inside_west a b d (at x) box.x0 t ha.west hb.west hd.west;
  east = inside_east a b d (at x) box.x1 t ha.east hb.east hd.east;
  south = inside_south a b d (at x) box.y0 t ha.south hb.south hd.south;
  north = inside_north a b d (at x) box.y1 t ha.north hb.north hd.north;
}

pub InSomeTriangle-Has : (box : Area) (spots : List Spot) (x : Point) → All (HasSpot box) spots → InSomeTriangle spots x → Has box x
unfolding InSomeTriangle
InSomeTriangle-Has box spots x h t =
    SomeThree_elim {R = HasSpot box} {P = λ a b d. InTriangle a b d (at x)} (λ a b d ha hb hd i. elim i [ inl j ↦ inside_box box x a b d ha hb hd j | inr j ↦ inside_box box x a d b ha hd hb j ]) spots h t
