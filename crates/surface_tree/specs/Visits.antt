-- The items that a visit of a point gives, and the number that it tests.
use Rattle.std.specs.Prelude.{ℕ, zero, suc, ◌+◌, ℤ, pos, ◌+ℤ◌, int_le, int_lt, nat_eq, nat_lt, Bool, ◌&&◌, List, ◌++◌, count_by}
use Rattle.std.specs.List.{filter}
use Rattle.grid_exact.specs.Area.{has_point}
use Rattle.grid_exact.specs.declared.area.Area.{Area}
use Rattle.grid_exact.specs.declared.point.Point.{Point}
use Rattle.surface_tree.specs.declared.placed.Plot.{Plot}
use Rattle.surface_tree.specs.declared.square.Square.{Square}
use Rattle.surface_tree.specs.declared.square.TheConstants.{TOP_LEVEL}
use Rattle.surface_tree.specs.Levels.{side_of, level_of}
use Rattle.surface_tree.specs.Squares.{IsIn}

-- the point lies in a square of the code
abbrev pub HasPoint : Square → Point → Type 0
HasPoint square p = IsIn square.level square.west square.south p

-- the visitor has received these further items, whatever state one starts from
abbrev pub SeesMore : {V T : Type 0} → (V → V → List T → Type 0) → V → V → List T → Type 0
SeesMore {V} {T} seen old new ys = (start : V) (xs : List T) → seen start old xs → seen start new (xs ++ ys)

-- the middle of an interval lies within one and a half sides of a coordinate
abbrev pub near_middle : ℕ → ℤ → ℤ → ℤ → Bool
near_middle side from to x =
    int_le (from +ℤ to) (x +ℤ x +ℤ pos side +ℤ pos side +ℤ pos side) && int_le (x +ℤ x) (from +ℤ to +ℤ pos side +ℤ pos side +ℤ pos side)

-- the box's center lies, in each coordinate, within one and a half sides of the point; the side is the least power of two from 2^12
-- to 2^26 that is at least the box's larger extent
abbrev pub near_area : Point → Area → Bool
near_area p a = near_middle (side_of (level_of a)) a.x0 a.x1 p.x && near_middle (side_of (level_of a)) a.y0 a.y1 p.y

-- the coordinate lies in the interval, or less than one side from it
abbrev pub close_side : ℕ → ℤ → ℤ → ℤ → Bool
close_side side from to x = int_lt from (x +ℤ pos side) && int_lt x (to +ℤ pos side)

-- in each coordinate the point lies in the area, or less than one side of the squares that hold the area from it
abbrev pub close_area : Point → Plot → Bool
close_area p plot = close_side (side_of plot.level) plot.area.x0 plot.area.x1 p.x && close_side (side_of plot.level) plot.area.y0 plot.area.y1 p.y

-- the area contains the point, and squares of this level hold it
abbrev pub hit_at : Point → ℕ → Plot → Bool
hit_at p level plot = nat_eq plot.level level && has_point plot.area p

-- the items in squares of this level or smaller ones whose areas contain the point: those in the largest squares first, and those in
-- squares of one size in the order of the items
abbrev pub hits : {T : Type 0} → (T → Plot) → Point → ℕ → List T → List T
hits plot p zero items = filter (λ i. hit_at p zero (plot i)) items
hits plot p (suc level) items = filter (λ i. hit_at p (suc level) (plot i)) items ++ hits plot p level items

-- the items whose areas contain the point, in the order of a visit
unfoldable pub all_hits : {T : Type 0} → (T → Plot) → Point → List T → List T
all_hits plot p items = hits plot p TOP_LEVEL items

-- where a visitor has received the items of this level, it has received those of smaller squares too
abbrev pub SeesRest : {V T : Type 0} → (V → V → List T → Type 0) → V → V → (T → Plot) → Point → ℕ → List T → Type 0
SeesRest {V} {T} seen old new plot p level items =
    (start : V) (xs : List T) → seen start old (xs ++ filter (λ i. hit_at p level (plot i)) items) → seen start new (xs ++ hits plot p level items)

-- the number of items in squares smaller than this level that are close to the point
abbrev pub count_below : {T : Type 0} → (T → Plot) → Point → ℕ → List T → ℕ
count_below plot p level items = count_by (λ i. nat_lt (plot i).level level && close_area p (plot i)) items

-- the number of items in squares of this level or smaller ones that are close to the point
abbrev pub count_of_looks : {T : Type 0} → (T → Plot) → Point → ℕ → List T → ℕ
count_of_looks plot p level items = count_by (λ i. nat_lt (plot i).level (level + 1) && close_area p (plot i)) items
