-- Boxes whose coordinates are kept within the plane.
use Rattle.std.proofs.Common.{◌≡◌, ◌↔◌, ◌≤ℤ◌, neg_ℤ, arith}
use Rattle.std.specs.Int.{int_max, int_min}
use Rattle.std.proofs.lemmas.Int.{ints, clamps}
use Rattle.grid_exact.specs.Area.{Has}
use Rattle.grid_exact.specs.declared.area.Area.{Area}
use Rattle.grid_exact.specs.declared.point.Point.{Point}
use Rattle.outline_boxes.specs.declared.bounds.TheConstants.{PLANE_LIMIT}

pub record IsKept (a b : Area) : Type 0 where
  pub west : b.x0 ≡ int_min (int_max a.x0 (neg_ℤ PLANE_LIMIT)) PLANE_LIMIT
  pub south : b.y0 ≡ int_min (int_max a.y0 (neg_ℤ PLANE_LIMIT)) PLANE_LIMIT
  pub east : b.x1 ≡ int_min (int_max a.x1 (neg_ℤ PLANE_LIMIT)) PLANE_LIMIT
  pub north : b.y1 ≡ int_min (int_max a.y1 (neg_ℤ PLANE_LIMIT)) PLANE_LIMIT

-- it has the same points of the grid
kept_has : (a b : Area) (x : Point) → IsKept a b → Has a x → Has b x
kept_has a b x i h = record {
  west = omega (arith, ints, clamps, i.west, h.west, x.on_grid);
  east = omega (arith, ints, clamps, i.east, h.east, x.on_grid);
  south = omega (arith, ints, clamps, i.south, h.south, x.on_grid);
  north = omega (arith, ints, clamps, i.north, h.north, x.on_grid);
}

has_kept : (a b : Area) (x : Point) → IsKept a b → Has b x → Has a x
has_kept a b x i h = record {
  west = omega (arith, ints, clamps, i.west, h.west, x.on_grid);
  east = omega (arith, ints, clamps, i.east, h.east, x.on_grid);
  south = omega (arith, ints, clamps, i.south, h.south, x.on_grid);
  north = omega (arith, ints, clamps, i.north, h.north, x.on_grid);
}

pub same_points : (a b : Area) (x : Point) → IsKept a b → Has b x ↔ Has a x
same_points a b x i = (has_kept a b x i, kept_has a b x i)

-- a box that begins at the end of the plane has none
pub no_points : (b : Area) (x : Point) → PLANE_LIMIT ≤ℤ b.x0 → ¬ Has b x
no_points b x l h = absurd (omega (arith, ints, l, h.west, x.on_grid))
