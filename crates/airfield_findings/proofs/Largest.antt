-- One of several boxes is near each point that is close to all of them together.
use Rattle.std.proofs.Common.{◌⊎◌, ◌≡◌, ℕ, zero, suc, ◌<◌, ◌≤◌, ℤ, pos, ◌+ℤ◌, ◌-ℤ◌, ◌≤ℤ◌, List, [], ◌∷◌, Bool, true, false, refl, sym, subst, arith, inl, inr, get_or, length, if◌then◌else◌}
use Rattle.std.specs.Prelude.{int_le, nat_lt, ◌&&◌}
use Rattle.std.specs.List.{All, Contains, list_any}
use Rattle.std.proofs.lemmas.Bool.{cases_Bool, and_parts, and_from, or_left, or_right}
use Rattle.std.proofs.lemmas.Int.{ints}
use Rattle.std.proofs.lemmas.List.Elements.{All-contains, All-head, All-tail}
use Rattle.grid_exact.specs.declared.area.Area.{Area}
use Rattle.grid_exact.specs.declared.point.Point.{Point}
use Rattle.outline_boxes.specs.Boxes.{Encloses}
use Rattle.outline_boxes.proofs.More.{Encloses_through}
use Rattle.surface_tree.specs.Levels.{side_of, level_up_to, level_of, greater}
use Rattle.surface_tree.specs.Visits.{near_middle, near_area, close_side}
use Rattle.surface_tree.proofs.Sides.{level-side}
use Rattle.surface_tree.proofs.Boxes.{side-le, greater_first, greater_second}
use Rattle.airfield_findings.specs.Kept.{IsKept}

-- neither extent is more than 2^26
pub record IsShort (t : Area) : Type 0 where
  pub along : (t.x1 -ℤ t.x0) ≤ℤ pos 67108864
  pub up : (t.y1 -ℤ t.y0) ≤ℤ pos 67108864

greater_most : (a b c : ℤ) → a ≤ℤ c → b ≤ℤ c → greater a b ≤ℤ c
greater_most a b c h k = elim (cases_Bool (int_le a b)) [ inl y ↦ rw y k | inr n ↦ rw n h ]

whole_side : side_of 14 ≡ 67108864
whole_side = refl

short_level : (a : Area) → IsShort a → greater (a.x1 -ℤ a.x0) (a.y1 -ℤ a.y0) ≤ℤ pos (side_of (level_up_to 14 (greater (a.x1 -ℤ a.x0) (a.y1 -ℤ a.y0))))
short_level a h =
    let m : greater (a.x1 -ℤ a.x0) (a.y1 -ℤ a.y0) ≤ℤ pos (side_of 14) = rw whole_side (greater_most _ _ _ h.along h.up) in
    level-side 14 _ m

level_bounds : (a : Area) → IsShort a → greater (a.x1 -ℤ a.x0) (a.y1 -ℤ a.y0) ≤ℤ pos (side_of (level_of a))
unfolding level_of
level_bounds a h = short_level a h

pub sides : (a : Area) → IsShort a → ((a.x1 -ℤ a.x0) ≤ℤ pos (side_of (level_of a))) × ((a.y1 -ℤ a.y0) ≤ℤ pos (side_of (level_of a)))
sides a h =
    (omega (arith, ints, level_bounds a h, greater_first (a.x1 -ℤ a.x0) (a.y1 -ℤ a.y0)), omega (arith, ints, level_bounds a h, greater_second (a.x1 -ℤ a.x0) (a.y1 -ℤ a.y0)))

-- ---- the largest of those that enclose a box

abbrev encloses : Area → Area → Bool
encloses t k = (int_le t.x0 k.x0 && int_le t.y0 k.y0) && (int_le k.x1 t.x1 && int_le k.y1 t.y1)

test_true : (t k : Area) → Encloses t k → encloses t k ≡ true
test_true t k h =
    and_from (int_le t.x0 k.x0 && int_le t.y0 k.y0) (int_le k.x1 t.x1 && int_le k.y1 t.y1)
    (and_from (int_le t.x0 k.x0) (int_le t.y0 k.y0) (grind (arith, ints, h.west)) (grind (arith, ints, h.south)))
    (and_from (int_le k.x1 t.x1) (int_le k.y1 t.y1) (grind (arith, ints, h.east)) (grind (arith, ints, h.north)))

test_holds : (t k : Area) → encloses t k ≡ true → Encloses t k
test_holds t k e =
    let a = and_parts (int_le t.x0 k.x0 && int_le t.y0 k.y0) (int_le k.x1 t.x1 && int_le k.y1 t.y1) e in
    let b = and_parts (int_le t.x0 k.x0) (int_le t.y0 k.y0) a.0 in
    let c = and_parts (int_le k.x1 t.x1) (int_le k.y1 t.y1) a.1 in
    record {
      west = grind (arith, ints, b.0);
      south = grind (arith, ints, b.1);
      east = grind (arith, ints, c.0);
      north = grind (arith, ints, c.1);
    }

-- the greater of one more than a level and a number, where the level counts
abbrev counted : Bool → ℕ → ℕ → ℕ
counted b level rest = if b && nat_lt rest (suc level) then suc level else rest

counted_rest : (b : Bool) (level rest : ℕ) → rest ≤ counted b level rest
counted_rest b level rest = grind arith

counted_level : (level rest : ℕ) → level < counted true level rest
counted_level level rest = grind arith

-- one more than the greatest level of those that enclose the box, and 0 where none does
abbrev top_of : Area → List Area → ℕ
top_of k [] = 0
top_of k (t ∷ ts) = counted (encloses t k) (level_of t) (top_of k ts)

top_at : (k d : Area) (ts : List Area) (n : ℕ) → n < length ts → Encloses (get_or ts n d) k → level_of (get_or ts n d) < top_of k ts
top_at k d [] n l e = absurd (omega arith)
top_at k d (t ∷ ts) zero l e = rw (test_true t k e) (counted_level (level_of t) (top_of k ts))
top_at k d (t ∷ ts) (suc n) l e = omega (arith, counted_rest (encloses t k) (level_of t) (top_of k ts), top_at k d ts n (omega (arith, l)) e)

top_most : (k t : Area) (ts : List Area) → Contains ts t → Encloses t k → level_of t < top_of k ts
top_most k t ts c e = subst (λ (s : Area). level_of s < top_of k ts) c.2 (top_at k t ts c.0 c.1 (subst (λ (s : Area). Encloses s k) (sym c.2) e))

-- a number that is counted is the one before, or one more than the level
which : (b : Bool) (level rest m : ℕ) → counted b level rest ≡ suc m → (rest ≡ suc m) ⊎ ((b ≡ true) × (level ≡ m))
which true level rest m e =
    elim (cases_Bool (nat_lt rest (suc level))) [
      | inl y ↦ inr (refl, (let q : suc level ≡ suc m = grind (arith, e, y) in omega (arith, q)))
      | inr n ↦ inl (grind (arith, e, n))
    ]
which false level rest m e = inl e

-- some box has that level
top_near : (P : Area → Type 0) (k : Area) (x : Point) (m : ℕ) (ts : List Area) → All P ts → top_of k ts ≡ suc m → ((s : Area) → P s → Encloses s k → level_of s ≡ m → near_area x s ≡ true) → list_any (λ s. near_area x s) ts ≡ true
top_near P k x m [] all e near = absurd (let z : 0 ≡ suc m = e in omega (arith, z))
top_near P k x m (t ∷ ts) all e near =
    elim (which (encloses t k) (level_of t) (top_of k ts) m e) [
      | inl r ↦ or_right (near_area x t) (list_any (λ s. near_area x s) ts) (top_near P k x m ts (All-tail P t ts all) r near)
      | inr h ↦ or_left (near_area x t) (list_any (λ s. near_area x s) ts) (near t (All-head P t ts all) (test_holds t k h.0) h.1)
    ]

-- ---- near the largest

-- an interval that lies so about another one has a middle near each coordinate that is within a side of that one
near_side : (side : ℕ) (low high from to x : ℤ) → low ≤ℤ from → to ≤ℤ high → from ≤ℤ to → (high -ℤ low) ≤ℤ pos side → (from -ℤ pos side) ≤ℤ x → x ≤ℤ (to +ℤ pos side) → near_middle side low high x ≡ true
near_side side low high from to x a b c d e f = grind (arith, ints, a, b, c, d, e, f)

-- the box that many of one size lie in which have a box in common
abbrev reached : Area → ℤ → Area
reached k side = record {
  x0 = k.x1 -ℤ side;
  y0 = k.y1 -ℤ side;
  x1 = k.x0 +ℤ side;
  y1 = k.y0 +ℤ side;
}

in_reached : (k t : Area) (side : ℕ) → IsShort t → Encloses t k → side_of (level_of t) ≤ side → Encloses (reached k (pos side)) t
in_reached k t side s e l = record {
  west = omega (arith, ints, (sides t s).0, e.east, l);
  south = omega (arith, ints, (sides t s).1, e.north, l);
  east = omega (arith, ints, (sides t s).0, e.west, l);
  north = omega (arith, ints, (sides t s).1, e.south, l);
}

-- the common box is so wide that squares of level 5 fit
pub record IsWide (k : Area) : Type 0 where
  pub along : (k.x0 +ℤ pos 131072) ≤ℤ k.x1
  pub up : (k.y0 +ℤ pos 131072) ≤ℤ k.y1

kept_in : (k : Area) (list : List Area) (m : ℕ) → All IsShort list → All (IsKept k list) list → top_of k list ≡ suc m → All (λ t. Encloses (reached k (pos (side_of m))) t) list
kept_in k list m short kept e i d l =
    let h = kept i d l in
    let level : level_of h.kept < top_of k list = top_most k h.kept list h.listed h.has_near in
    let le : side_of (level_of h.kept) ≤ side_of m = side-le (level_of h.kept) m (omega (arith, level, e)) in
    Encloses_through (reached k (pos (side_of m))) h.kept (get_or list i d) (in_reached k h.kept (side_of m) (All-contains IsShort list h.kept short h.listed) h.has_near le) h.has_area

some_top : (k : Area) (list : List Area) (d : Area) → 0 < length list → All (IsKept k list) list → 0 < top_of k list
some_top k list d l kept =
    let h = kept 0 d l in
    omega (arith, top_most k h.kept list h.listed h.has_near)

near_one : (k s : Area) (x : Point) → IsWide k → IsShort s → Encloses s k → (j : Area) → Encloses (reached k (pos (side_of (level_of s)))) j → close_side 131072 j.x0 j.x1 x.x ≡ true → close_side 131072 j.y0 j.y1 x.y ≡ true → near_area x s ≡ true
near_one k s x wide short e j in_it cx cy =
    let side = side_of (level_of s) in
    let w : (k.x0 -ℤ pos side) ≤ℤ x.x = grind (arith, ints, cx, in_it.west, wide.along) in
    let a : x.x ≤ℤ (k.x1 +ℤ pos side) = grind (arith, ints, cx, in_it.east, wide.along) in
    let t : (k.y0 -ℤ pos side) ≤ℤ x.y = grind (arith, ints, cy, in_it.south, wide.up) in
    let n : x.y ≤ℤ (k.y1 +ℤ pos side) = grind (arith, ints, cy, in_it.north, wide.up) in
    and_from _ _
    (near_side side s.x0 s.x1 k.x0 k.x1 x.x e.west e.east (omega (arith, ints, wide.along)) (sides s short).0 w a)
    (near_side side s.y0 s.y1 k.y0 k.y1 x.y e.south e.north (omega (arith, ints, wide.up)) (sides s short).1 t n)

-- where each of several boxes lies in one of them that encloses a wide box, and a box lies in each that encloses all of them, a point
-- that is close to this one is near one of them
pub near_of_kept : (k j : Area) (list : List Area) (d : Area) (x : Point) → 0 < length list → IsWide k → All IsShort list → All (IsKept k list) list → ((b : Area) → All (λ t. Encloses b t) list → Encloses b j)
    → close_side 131072 j.x0 j.x1 x.x ≡ true → close_side 131072 j.y0 j.y1 x.y ≡ true → list_any (λ s. near_area x s) list ≡ true
near_of_kept k j list d x l wide short kept least cx cy = found (top_of k list) refl where
  found : (n : ℕ) → top_of k list ≡ n → list_any (λ s. near_area x s) list ≡ true
  found zero e = absurd (omega (arith, e, some_top k list d l kept))
  found (suc m) e =
      top_near IsShort k x m list short e
      (λ s p q r. near_one k s x wide p q j (rw r (least (reached k (pos (side_of m))) (kept_in k list m short kept e))) cx cy)
