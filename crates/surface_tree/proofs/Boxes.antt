-- What the tests of plots and squares say of each other.
use Rattle.std.proofs.Common.{◌≡◌, ℕ, zero, suc, ◌+◌, ◌<◌, ◌≤◌, ℤ, pos, ◌+ℤ◌, ◌-ℤ◌, ◌≤ℤ◌, ◌<ℤ◌, Bool, true, false, ◌&&◌, ◌∙◌, sym, refl, arith, inl, inr, nat_eq, cond}
use Rattle.std.specs.Prelude.{int_le, nat_lt}
use Rattle.std.proofs.lemmas.Bool.{cases_Bool, cases_lt, and_parts, and_from, and_right, false_from_ne_true}
use Rattle.std.proofs.lemmas.Int.{ints}
use Rattle.grid_exact.specs.Area.{has_point}
use Rattle.grid_exact.specs.declared.area.Area.{Area}
use Rattle.grid_exact.specs.declared.point.Point.{Point}
use Rattle.surface_tree.specs.declared.placed.Plot.{Plot}
use Rattle.surface_tree.specs.Levels.{side_of, level_of, level_up_to, greater, IsPlaced}
use Rattle.surface_tree.specs.Squares.{meets, overlaps, in_cell, in_below, IsIn}
use Rattle.surface_tree.specs.Visits.{near_middle, near_area, close_side, close_area, hit_at}
use Rattle.surface_tree.proofs.Sides.{level-side}

-- an area that has a point of the square meets it
along_meets : (w : ℤ) (side : ℕ) (from to x : ℤ) → w ≤ℤ x → x <ℤ (w +ℤ pos side) → (int_le from x && int_le x to) ≡ true → meets w side from to ≡ true
along_meets w side from to x a b h = grind (arith, ints, a, b, h)

pub has_overlaps : (k : ℕ) (w s : ℤ) (a : Area) (p : Point) → IsIn k w s p → has_point a p ≡ true → overlaps k w s a ≡ true
has_overlaps k w s a p i h =
    let t = and_parts (int_le a.x0 p.x && int_le p.x a.x1) (int_le a.y0 p.y && int_le p.y a.y1) h in
    and_from _ _ (along_meets w (side_of k) a.x0 a.x1 p.x i.not_west i.not_east t.0) (along_meets s (side_of k) a.y0 a.y1 p.y i.not_south i.not_north t.1)

pub eq_lt : (l k n : ℕ) → k < n → nat_eq l k ≡ true → nat_lt l n ≡ true
eq_lt l k n h e = grind (arith, h, e)

-- no plot outside the reach of a square has a point there
pub hit_below : (j n k : ℕ) (w s : ℤ) (a : Plot) (p : Point) → j < n → IsIn k w s p → in_below n k w s a ≡ false → hit_at p j a ≡ false
hit_below j n k w s a p l i y =
    false_from_ne_true _ (λ h.
    let t = and_parts (nat_eq a.level j) (has_point a.area p) h in
    let r : in_below n k w s a ≡ true = and_from _ _ (eq_lt a.level j n l t.0) (has_overlaps k w s a.area p i t.1) in
    cc)

pub and_true_right : (b : Bool) → (b && true) ≡ b
and_true_right true = refl
and_true_right false = refl

pub lt_more : (l k : ℕ) → nat_lt l k ≡ true → nat_lt l (k + 1) ≡ true
lt_more l k h = grind (arith, h)

-- of the plots that stand in a square, those with a point of it are those of the level that have it
pub own_hit : (k : ℕ) (w s : ℤ) (a : Plot) (p : Point) → IsIn k w s p → (in_cell k w s a && has_point a.area p) ≡ hit_at p k a
own_hit k w s a p i =
    elim (cases_Bool (has_point a.area p)) [
      | inl y ↦ rw (y, has_overlaps k w s a.area p i y) (and_true_right (nat_eq a.level k && true))
      | inr n ↦ and_right (in_cell k w s a) (has_point a.area p) n ∙ sym (and_right (nat_eq a.level k) (has_point a.area p) n)
    ]

-- an area is no longer than the side of its level
pub greater_first : (a b : ℤ) → a ≤ℤ greater a b
greater_first a b = elim (cases_Bool (int_le a b)) [ inl y ↦ rw y (grind (arith, ints, y)) | inr n ↦ rw n (omega (arith, ints)) ]

pub greater_second : (a b : ℤ) → b ≤ℤ greater a b
greater_second a b = elim (cases_Bool (int_le a b)) [ inl y ↦ rw y (omega (arith, ints)) | inr n ↦ rw n (grind (arith, ints, n)) ]

greater_most : (a b c : ℤ) → a ≤ℤ c → b ≤ℤ c → greater a b ≤ℤ c
greater_most a b c h k = elim (cases_Bool (int_le a b)) [ inl y ↦ rw y k | inr n ↦ rw n h ]

whole_side : side_of 14 ≡ 67108864
whole_side = refl

placed_level : (a : Plot) → IsPlaced a → greater (a.area.x1 -ℤ a.area.x0) (a.area.y1 -ℤ a.area.y0) ≤ℤ pos (side_of (level_up_to 14 (greater (a.area.x1 -ℤ a.area.x0) (a.area.y1 -ℤ a.area.y0))))
placed_level a h =
    let x : (a.area.x1 -ℤ a.area.x0) ≤ℤ pos 67108864 = omega (arith, ints, h.east, h.west) in
    let y : (a.area.y1 -ℤ a.area.y0) ≤ℤ pos 67108864 = omega (arith, ints, h.north, h.south) in
    let m : greater (a.area.x1 -ℤ a.area.x0) (a.area.y1 -ℤ a.area.y0) ≤ℤ pos (side_of 14) = rw whole_side (greater_most _ _ _ x y) in
    level-side 14 _ m

level_bounds : (a : Plot) → IsPlaced a → greater (a.area.x1 -ℤ a.area.x0) (a.area.y1 -ℤ a.area.y0) ≤ℤ pos (side_of (level_of a.area))
unfolding level_of
level_bounds a h = placed_level a h

pub placed_short : (a : Plot) → IsPlaced a → ((a.area.x1 -ℤ a.area.x0) ≤ℤ pos (side_of (level_of a.area))) × ((a.area.y1 -ℤ a.area.y0) ≤ℤ pos (side_of (level_of a.area)))
placed_short a h = (
  omega (arith, ints, level_bounds a h, greater_first (a.area.x1 -ℤ a.area.x0) (a.area.y1 -ℤ a.area.y0)),
  omega (arith, ints, level_bounds a h, greater_second (a.area.x1 -ℤ a.area.x0) (a.area.y1 -ℤ a.area.y0)),
)

pub side-le : (j k : ℕ) → j ≤ k → side_of j ≤ side_of k
side-le j zero h = let e : j ≡ 0 = omega arith in rw e (omega arith)
side-le j (suc k) h =
    elim (cases_lt k j) [
      | inl l ↦ (let e : j ≡ suc k = omega arith in rw e (omega arith))
      | inr l ↦ omega (arith, side-le j k l)
    ]

-- an interval that meets a side is close to each coordinate there
along_close : (w : ℤ) (side : ℕ) (from to x : ℤ) → w ≤ℤ x → x <ℤ (w +ℤ pos side) → meets w side from to ≡ true → close_side side from to x ≡ true
along_close w side from to x a b m = grind (arith, ints, a, b, m)

pub overlap_close : (k : ℕ) (w s : ℤ) (a : Plot) (p : Point) → a.level ≡ k → IsIn k w s p → overlaps k w s a.area ≡ true → close_area p a ≡ true
overlap_close k w s a p e i o =
    let t = and_parts (meets w (side_of k) a.area.x0 a.area.x1) (meets s (side_of k) a.area.y0 a.area.y1) o in
    rw e (and_from _ _ (along_close w (side_of k) a.area.x0 a.area.x1 p.x i.not_west i.not_east t.0) (along_close s (side_of k) a.area.y0 a.area.y1 p.y i.not_south i.not_north t.1))

-- and the middle of an interval is near each coordinate that it is close to
close_middle : (side big : ℕ) (from to x : ℤ) → side ≤ big → (to -ℤ from) ≤ℤ pos big → close_side side from to x ≡ true → near_middle big from to x ≡ true
close_middle side big from to x l e m = grind (arith, ints, l, e, m)

pub close_near : (a : Plot) (p : Point) → IsPlaced a → close_area p a ≡ true → near_area p a.area ≡ true
close_near a p h c =
    let t = and_parts (close_side (side_of a.level) a.area.x0 a.area.x1 p.x) (close_side (side_of a.level) a.area.y0 a.area.y1 p.y) c in
    let l : side_of a.level ≤ side_of (level_of a.area) = side-le a.level (level_of a.area) h.level_most in
    and_from _ _ (close_middle (side_of a.level) (side_of (level_of a.area)) a.area.x0 a.area.x1 p.x l (placed_short a h).0 t.0)
    (close_middle (side_of a.level) (side_of (level_of a.area)) a.area.y0 a.area.y1 p.y l (placed_short a h).1 t.1)

-- a plot of a square is tested at its own level alone
pub test_once : (k : ℕ) (w s : ℤ) (a : Plot) (p : Point) → IsIn k w s p →
    cond (in_cell k w s a) 1 0 + cond (nat_lt a.level k && close_area p a) 1 0 ≤ cond (nat_lt a.level (k + 1) && close_area p a) 1 0
test_once k w s a p i =
    elim (cases_Bool (in_cell k w s a)) [
      | inl y ↦
          (let t = and_parts (nat_eq a.level k) (overlaps k w s a.area) y in
          let e : a.level ≡ k = grind (arith, t.0) in
          let n : close_area p a ≡ true = overlap_close k w s a p e i t.1 in
          let u : nat_lt a.level (k + 1) ≡ true = eq_lt a.level k (k + 1) (omega arith) t.0 in
          let v : nat_lt a.level k ≡ false = grind (arith, e) in
          rw (y, u, v, n) (omega arith))
      | inr y ↦ rw y (elim (cases_Bool (nat_lt a.level k)) [
        | inl l ↦ (let u : nat_lt a.level (k + 1) ≡ true = lt_more a.level k l in rw (l, u) (omega arith))
        | inr l ↦ rw l (omega arith)
      ])
    ]
