-- The plots of airfields.
use Rattle.std.proofs.Common.{◌≡◌, ℕ, ◌<◌, ◌≤◌, ℤ, pos, ◌+ℤ◌, ◌-ℤ◌, ◌≤ℤ◌, ◌<ℤ◌, true, arith}
use Rattle.std.proofs.lemmas.Int.{ints}
use Rattle.std.proofs.lemmas.Bool.{and_parts, and_from}
use Rattle.grid_exact.specs.declared.area.Area.{Area}
use Rattle.grid_exact.specs.declared.point.Point.{Point}
use Rattle.outline_boxes.specs.Boxes.{Encloses}
use Rattle.surface_tree.specs.Levels.{IsPlaced, side_of, level_of}
use Rattle.surface_tree.specs.Visits.{close_area, close_side, near_area, near_middle}
use Rattle.surface_tree.specs.declared.placed.Plot.{Plot}
use Rattle.surface_tree.proofs.Boxes.{side-le, greater_first}
use Rattle.surface_tree.proofs.Even.{higher_level}
use Rattle.airfield_findings.specs.Around.{around_point}
use Rattle.airfield_findings.specs.Beside.{IsBeside}

-- the box of what is so wide about a point has at least the level of its size
wide_level : (a : Area) (n : ℕ) (e : ℤ) → n < 14 → pos (side_of n) <ℤ e → e ≤ℤ (a.x1 -ℤ a.x0) → n < level_of a
wide_level a n e l s w = higher_level a n l (omega (arith, ints, s, w, greater_first (a.x1 -ℤ a.x0) (a.y1 -ℤ a.y0)))

-- ---- beside the grid

pub beside_placed : (p : Point) (plot : Plot) → IsBeside p plot → IsPlaced plot
beside_placed p plot b = record {
  along = omega (arith, ints, b.west, b.east);
  up = omega (arith, ints, b.south, b.north);
  west = omega (arith, ints, b.west);
  south = omega (arith, ints, b.south, p.on_grid);
  east = omega (arith, ints, b.east);
  north = omega (arith, ints, b.north, p.on_grid);
  level_most = (let w : 4 < level_of plot.area = wide_level plot.area 4 (pos 131071) (omega arith) (omega (arith, ints)) (omega (arith, ints, b.west, b.east)) in omega (arith, b.level, w));
}

pub beside_far : (p : Point) (plot : Plot) (x : Point) → IsBeside p plot → ¬ (close_area x plot ≡ true)
beside_far p plot x b e =
    let h = and_parts (close_side (side_of plot.level) plot.area.x0 plot.area.x1 x.x) (close_side (side_of plot.level) plot.area.y0 plot.area.y1 x.y) e in
    let c : close_side 131072 plot.area.x0 plot.area.x1 x.x ≡ true = rw b.level at h.0 in
    let l : plot.area.x0 <ℤ (x.x +ℤ pos 131072) = grind (arith, ints, c) in
    omega (arith, ints, l, b.west, x.on_grid)

-- ---- the boxes of large airports

-- a plot in the plane about a point of the grid
pub placed_about : (p : Point) (inner : Area) (plot : Plot) → Encloses (around_point p.x p.y (pos 1048576)) plot.area → Encloses plot.area inner → (inner.x0 ≤ℤ inner.x1) → (inner.y0 ≤ℤ inner.y1) → plot.level ≤ level_of plot.area → IsPlaced plot
placed_about p inner plot o i a u l = record {
  along = omega (arith, ints, i.west, i.east, a);
  up = omega (arith, ints, i.south, i.north, u);
  west = omega (arith, ints, o.west, p.on_grid);
  south = omega (arith, ints, o.south, p.on_grid);
  east = omega (arith, ints, o.east, p.on_grid);
  north = omega (arith, ints, o.north, p.on_grid);
  level_most = l;
}

pub large_level : (a : Area) (x y : ℤ) → Encloses a (around_point x y (pos 363958)) → 7 ≤ level_of a
large_level a x y e = omega (arith, wide_level a 6 (pos 727916) (omega arith) (omega (arith, ints)) (omega (arith, ints, e.west, e.east)))

pub small_level : (a : Area) (x y r : ℤ) → pos 50000 ≤ℤ r → Encloses a (around_point x y r) → 5 ≤ level_of a
small_level a x y r l e = omega (arith, wide_level a 4 (pos 100000) (omega arith) (omega (arith, ints)) (omega (arith, ints, e.west, e.east, l)))

near_center : (side : ℕ) (c low high x : ℤ) → 1048576 ≤ side → (c -ℤ pos 1048576) ≤ℤ low → high ≤ℤ (c +ℤ pos 1048576) → close_side 524288 low high x ≡ true → near_middle side (c -ℤ pos 363958) (c +ℤ pos 363958) x ≡ true
near_center side c low high x s a b h = grind (arith, ints, s, a, b, h)

limit_side : (x y : ℤ) → 1048576 ≤ side_of (level_of (around_point x y (pos 363958)))
limit_side x y =
    let w : 7 < level_of (around_point x y (pos 363958)) = wide_level (around_point x y (pos 363958)) 7 (pos 727916) (omega arith) (omega (arith, ints)) (omega (arith, ints)) in
    let e : 1048576 ≤ side_of 8 = omega arith in
    omega (arith, e, side-le 8 (level_of (around_point x y (pos 363958))) (omega (arith, w)))

pub near_limit : (p x : Point) (j : Area) → Encloses (around_point p.x p.y (pos 1048576)) j → close_side 524288 j.x0 j.x1 x.x ≡ true → close_side 524288 j.y0 j.y1 x.y ≡ true → near_area x (around_point p.x p.y (pos 363958)) ≡ true
near_limit p x j e cx cy =
    let side = side_of (level_of (around_point p.x p.y (pos 363958))) in
    and_from _ _
    (near_center side p.x j.x0 j.x1 x.x (limit_side p.x p.y) e.west e.east cx)
    (near_center side p.y j.y0 j.y1 x.y (limit_side p.x p.y) e.south e.north cy)
