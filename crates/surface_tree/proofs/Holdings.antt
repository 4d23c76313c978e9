-- A part of the tree that a change does not reach.
use Rattle.std.proofs.Common.{◌≡◌, ℕ, ◌+◌, ◌-◌, ◌<◌, ◌≤◌, ℤ, pos, ◌+ℤ◌, ◌≤ℤ◌, List, [], Option, true, false, sym, ◌∙◌, arith, nat_eq}
use Rattle.std.specs.Prelude.{nat_lt}
use Rattle.std.specs.Cmp.{IsTotalOrder}
use Rattle.std.specs.declared.cmp.Ordering.{Ordering}
use Rattle.std.proofs.lemmas.Bool.{and_parts, and_from, and_left, false_from_ne_true}
use Rattle.std.proofs.lemmas.Int.{ints}
use Rattle.surface_tree.specs.declared.entry.Entry.{Entry}
use Rattle.surface_tree.specs.declared.part.Part.{Part}
use Rattle.surface_tree.specs.declared.part.Part.TheVariants.{Bare, Quartered', Own'}
use Rattle.surface_tree.specs.declared.placed.Plot.{Plot}
use Rattle.surface_tree.specs.Levels.{side_of}
use Rattle.surface_tree.specs.Squares.{meets, overlaps, in_cell, in_below, in_reach}
use Rattle.surface_tree.specs.Changes.{edited_by, Fits, LiesIn}
use Rattle.surface_tree.specs.Parts.{Holds, HoldsOwn}
use Rattle.surface_tree.proofs.Sides.{side-pred}
use Rattle.surface_tree.proofs.Boxes.{eq_lt}
use Rattle.surface_tree.proofs.Edits.{filter_fits_out, none_fits}

-- what meets a half meets the whole
first_meets : (low : ℤ) (half side : ℕ) (from to : ℤ) → side ≡ half + half → meets low half from to ≡ true → meets low side from to ≡ true
first_meets low half side from to e m = grind (arith, ints, e, m)

second_meets : (low : ℤ) (half side : ℕ) (from to : ℤ) → side ≡ half + half → meets (low +ℤ pos half) half from to ≡ true → meets low side from to ≡ true
second_meets low half side from to e m = grind (arith, ints, e, m)

less_one : (l k m : ℕ) → 0 < k → k ≤ m → nat_lt l (k - 1 + 1) ≡ true → nat_lt l m ≡ true
less_one l k m p b h = grind (arith, p, b, h)

module _ (m k : ℕ) (w s : ℤ) (a : Plot) (b : k ≤ m) (l : 0 < k) (n : in_below m k w s a ≡ false) where
  e : side_of k ≡ side_of (k - 1) + side_of (k - 1)
  e = side-pred k l

  -- what the whole does not reach, no quarter reaches
  pub past_south_west : in_reach (k - 1) w s a ≡ false
  past_south_west =
      false_from_ne_true _ (λ h.
      let t = and_parts (nat_lt a.level (k - 1 + 1)) (overlaps (k - 1) w s a.area) h in
      let o = and_parts (meets w (side_of (k - 1)) a.area.x0 a.area.x1) (meets s (side_of (k - 1)) a.area.y0 a.area.y1) t.1 in
      let r : in_below m k w s a ≡ true = and_from _ _ (less_one a.level k m l b t.0) (and_from _ _ (first_meets w _ _ a.area.x0 a.area.x1 e o.0) (first_meets s _ _ a.area.y0 a.area.y1 e o.1)) in
      cc)

  pub past_south_east : in_reach (k - 1) (w +ℤ pos (side_of (k - 1))) s a ≡ false
  past_south_east =
      false_from_ne_true _ (λ h.
      let t = and_parts (nat_lt a.level (k - 1 + 1)) (overlaps (k - 1) (w +ℤ pos (side_of (k - 1))) s a.area) h in
      let o = and_parts (meets (w +ℤ pos (side_of (k - 1))) (side_of (k - 1)) a.area.x0 a.area.x1) (meets s (side_of (k - 1)) a.area.y0 a.area.y1) t.1 in
      let r : in_below m k w s a ≡ true = and_from _ _ (less_one a.level k m l b t.0) (and_from _ _ (second_meets w _ _ a.area.x0 a.area.x1 e o.0) (first_meets s _ _ a.area.y0 a.area.y1 e o.1)) in
      cc)

  pub past_north_west : in_reach (k - 1) w (s +ℤ pos (side_of (k - 1))) a ≡ false
  past_north_west =
      false_from_ne_true _ (λ h.
      let t = and_parts (nat_lt a.level (k - 1 + 1)) (overlaps (k - 1) w (s +ℤ pos (side_of (k - 1))) a.area) h in
      let o = and_parts (meets w (side_of (k - 1)) a.area.x0 a.area.x1) (meets (s +ℤ pos (side_of (k - 1))) (side_of (k - 1)) a.area.y0 a.area.y1) t.1 in
      let r : in_below m k w s a ≡ true = and_from _ _ (less_one a.level k m l b t.0) (and_from _ _ (first_meets w _ _ a.area.x0 a.area.x1 e o.0) (second_meets s _ _ a.area.y0 a.area.y1 e o.1)) in
      cc)

  pub past_north_east : in_reach (k - 1) (w +ℤ pos (side_of (k - 1))) (s +ℤ pos (side_of (k - 1))) a ≡ false
  past_north_east =
      false_from_ne_true _ (λ h.
      let t = and_parts (nat_lt a.level (k - 1 + 1)) (overlaps (k - 1) (w +ℤ pos (side_of (k - 1))) (s +ℤ pos (side_of (k - 1))) a.area) h in
      let o = and_parts (meets (w +ℤ pos (side_of (k - 1))) (side_of (k - 1)) a.area.x0 a.area.x1) (meets (s +ℤ pos (side_of (k - 1))) (side_of (k - 1)) a.area.y0 a.area.y1) t.1 in
      let r : in_below m k w s a ≡ true = and_from _ _ (less_one a.level k m l b t.0) (and_from _ _ (second_meets w _ _ a.area.x0 a.area.x1 e o.0) (second_meets s _ _ a.area.y0 a.area.y1 e o.1)) in
      cc)

-- a plot that no part of a square reaches does not stand in it
pub cell_below : (m k : ℕ) (w s : ℤ) (a : Plot) → k < m → in_below m k w s a ≡ false → in_cell k w s a ≡ false
cell_below m k w s a b n =
    false_from_ne_true _ (λ h.
    let t = and_parts (nat_eq a.level k) (overlaps k w s a.area) h in
    let r : in_below m k w s a ≡ true = and_from _ _ (eq_lt a.level k m b t.0) t.1 in
    cc)

pub rest_below : (m k : ℕ) (w s : ℤ) (a : Plot) → k ≤ m → in_below m k w s a ≡ false → in_below k k w s a ≡ false
rest_below m k w s a b n =
    false_from_ne_true _ (λ h.
    let t = and_parts (nat_lt a.level k) (overlaps k w s a.area) h in
    let u = t.0 in
    let r : in_below m k w s a ≡ true = and_from _ _ (grind (arith, b, u)) t.1 in
    cc)

-- a square that does not hold a plot holds none that lies in it
meets_more : (low : ℤ) (side : ℕ) (from to first last : ℤ) → first ≤ℤ from → to ≤ℤ last → meets low side from to ≡ true → meets low side first last ≡ true
meets_more low side from to first last a b h = grind (arith, ints, a, b, h)

pub cell_lies : (k : ℕ) (w s : ℤ) (inner outer : Plot) → LiesIn inner outer → in_cell k w s outer ≡ false → in_cell k w s inner ≡ false
cell_lies k w s inner outer l n =
    false_from_ne_true _ (λ h.
    let t = and_parts (nat_eq inner.level k) (overlaps k w s inner.area) h in
    let o = and_parts (meets w (side_of k) inner.area.x0 inner.area.x1) (meets s (side_of k) inner.area.y0 inner.area.y1) t.1 in
    let e : nat_eq outer.level k ≡ true = rw l.level at t.0 in
    let r : in_cell k w s outer ≡ true = and_from _ _ e (and_from _ _ (meets_more w (side_of k) inner.area.x0 inner.area.x1 outer.area.x0 outer.area.x1 l.west l.east o.0) (meets_more s (side_of k) inner.area.y0 inner.area.y1 outer.area.y0 outer.area.y1 l.south l.north o.1)) in
    cc)

-- a plot of a square's own level stands in no part of the square
pub level_below : (k : ℕ) (w s : ℤ) (a : Plot) → a.level ≡ k → in_below k k w s a ≡ false
level_below k w s a e =
    let n : nat_lt a.level k ≡ false = grind (arith, e) in
    and_left (nat_lt a.level k) (overlaps k w s a.area) n

-- nor does a plot of a smaller level stand in the square itself
pub larger_cell : (k : ℕ) (w s : ℤ) (a : Plot) → a.level < k → in_cell k w s a ≡ false
larger_cell k w s a l =
    let n : nat_eq a.level k ≡ false = grind (arith, l) in
    and_left (nat_eq a.level k) (overlaps k w s a.area) n

module _ {T K : Type 0} (cmp : K → K → Ordering) (total : IsTotalOrder cmp) (key : T → K) (plot : T → Plot) (i : K) (a : Plot) (item : Option T) (value : List T) (f : Fits cmp key plot i a item value) where
  -- entries that the change does not reach
  pub own_past : (k : ℕ) (w s : ℤ) (es : List (Entry T)) → in_cell k w s a ≡ false → HoldsOwn plot value k w s es → HoldsOwn plot (edited_by cmp key i item value) k w s es
  own_past k w s es n h = record { boxes = h.boxes; items = h.items ∙ sym (filter_fits_out cmp total key plot i a (in_cell k w s) item value n (λ b l. cell_lies k w s b a l n) f) }

  -- a part that the change does not reach
  pub Holds_past : (n k : ℕ) (w s : ℤ) (q : Part T) → k ≤ n → in_below n k w s a ≡ false → Holds plot value n k w s q → Holds plot (edited_by cmp key i item value) n k w s q
  Holds_past n k w s Bare b y h = none_fits cmp total key plot i a (in_below n k w s) item value y f h
  Holds_past n k w s (Quartered' p sw q se r nw t ne) b y h = (
    λ l. own_past k w s [] (cell_below n k w s a l y) (h.0 l),
    λ l. (let d : k - 1 ≤ k - 1 + 1 = omega arith in let u = h.1 l in (
      Holds_past (k - 1 + 1) (k - 1) w s sw d (past_south_west n k w s a b l y) u.0,
      Holds_past (k - 1 + 1) (k - 1) (w +ℤ pos (side_of (k - 1))) s se d (past_south_east n k w s a b l y) u.1,
      Holds_past (k - 1 + 1) (k - 1) w (s +ℤ pos (side_of (k - 1))) nw d (past_north_west n k w s a b l y) u.2,
      Holds_past (k - 1 + 1) (k - 1) (w +ℤ pos (side_of (k - 1))) (s +ℤ pos (side_of (k - 1))) ne d (past_north_east n k w s a b l y) u.3,
    )),
  )
  Holds_past n k w s (Own' es p rest) b y h = (h.0, own_past k w s es.items (cell_below n k w s a h.0 y) h.1, Holds_past k k w s rest (omega arith) (rest_below n k w s a b y) h.2)
