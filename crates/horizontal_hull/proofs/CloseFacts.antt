-- Arcs of one airport are near each other and near each point that its surfaces can reach.
use Rattle.std.proofs.Common.{◌≡◌, ℕ, ◌+◌, ◌-◌, ◌<◌, ◌≤◌, ℤ, ◌-ℤ◌, unsigned_abs, List, ◌∷◌, length, take, drop, get_or, arith, sym, subst}
use Rattle.std.proofs.lemmas.Int.{ints}
use Rattle.std.proofs.lemmas.List.Elements.{All-cons, All-drop, All-get_or, All-head, All-tail, All-take}
use Rattle.grid_exact.specs.declared.point.Point.{Point}
use Rattle.horizontal_hull.specs.declared.sizes.TheConstants.{BOX_REACH, CENTERS_APART, CENTER_REACH, POINT_APART}
use Rattle.horizontal_hull.specs.Arcs.{ArcShape}
use Rattle.horizontal_hull.specs.Close.{AreClose, IsNearBoth, IsNearReference}

-- in one coordinate, seen from the reference point
way_size : (arp a b : ℤ) → unsigned_abs (a -ℤ arp) ≤ CENTER_REACH → unsigned_abs (b -ℤ arp) ≤ CENTER_REACH → unsigned_abs (b -ℤ a) ≤ CENTERS_APART
way_size arp a b h k = omega (arith, ints, h, k)

point_size : (arp a x : ℤ) → unsigned_abs (a -ℤ arp) ≤ CENTER_REACH → unsigned_abs (x -ℤ arp) ≤ BOX_REACH → unsigned_abs (x -ℤ a) ≤ POINT_APART
point_size arp a x h k = omega (arith, ints, h, k)

near_both : (arp : Point) (a b : ArcShape) (x : Point) → unsigned_abs (x.x -ℤ arp.x) ≤ BOX_REACH → unsigned_abs (x.y -ℤ arp.y) ≤ BOX_REACH → IsNearReference arp a → IsNearReference arp b → IsNearBoth a b x
near_both arp a b x h k na nb = record {
  way_x = way_size arp.x a.x b.x na.x nb.x;
  way_y = way_size arp.y a.y b.y na.y nb.y;
  first_x = point_size arp.x a.x x.x na.x h;
  first_y = point_size arp.y a.y x.y na.y k;
  second_x = point_size arp.x b.x x.x nb.x h;
  second_y = point_size arp.y b.y x.y nb.y k;
  first_radius = na.radius;
  second_radius = nb.radius;
}

-- an arc and one of those behind it
pub near_behind : (a : ArcShape) (others : List ArcShape) (x : Point) (i : ℕ) (d : ArcShape) → AreClose (a ∷ others) x → i < length others → IsNearBoth a (get_or others i d) x
near_behind a others x i d c l =
    near_both c.arp a (get_or others i d) x c.x_size c.y_size (All-head (IsNearReference c.arp) a others c.near)
    (All-get_or (IsNearReference c.arp) others i d l (All-tail (IsNearReference c.arp) a others c.near))

-- an arc and all those behind it are some of all
pub close_behind : (arcs : List ArcShape) (i : ℕ) (a : ArcShape) (x : Point) → i < length arcs → a ≡ get_or arcs i a → AreClose arcs x → AreClose (a ∷ take (length arcs - (i + 1)) (drop (i + 1) arcs)) x
close_behind arcs i a x l e c = record {
  arp = c.arp;
  near = All-cons (IsNearReference c.arp) a (take (length arcs - (i + 1)) (drop (i + 1) arcs)) (subst (λ (z : ArcShape). IsNearReference c.arp z) (sym e) (All-get_or (IsNearReference c.arp) arcs i a l c.near))
      (All-take (IsNearReference c.arp) (length arcs - (i + 1)) (drop (i + 1) arcs) (All-drop (IsNearReference c.arp) (i + 1) arcs c.near));
  x_size = c.x_size;
  y_size = c.y_size;
}
