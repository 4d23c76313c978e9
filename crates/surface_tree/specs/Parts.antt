-- The contents of a part of the tree.
use Rattle.std.specs.Prelude.{◌≡◌, ℕ, ◌+◌, ◌-◌, ◌<◌, ℤ, pos, neg_ℤ, ◌+ℤ◌, List, [], map, Option, None, Some, false}
use Rattle.std.specs.List.{All, filter}
use Rattle.std.specs.Arc.{arc_value}
use Rattle.grid_exact.specs.declared.area.Area.{Area}
use Rattle.outline_boxes.specs.Bounds.{box_of}
use Rattle.surface_tree.specs.declared.entry.Entry.{Entry}
use Rattle.surface_tree.specs.declared.part.Part.{Part}
use Rattle.surface_tree.specs.declared.part.Part.TheVariants.{Bare, Quartered', Own'}
use Rattle.surface_tree.specs.declared.part.Quarters.{Quarters}
use Rattle.surface_tree.specs.declared.placed.Plot.{Plot}
use Rattle.surface_tree.specs.declared.square.Square.{Square}
use Rattle.outline_boxes.specs.declared.bounds.TheConstants.{PLANE_LIMIT}
use Rattle.surface_tree.specs.declared.square.TheConstants.{TOP_LEVEL}
use Rattle.surface_tree.specs.Levels.{side_of}
use Rattle.surface_tree.specs.Squares.{in_cell, in_below}

-- the item of an entry
abbrev pub item_of : {T : Type 0} → Entry T → T
item_of e = arc_value e.item

-- the contents of an entry: its box and its item
abbrev pub content_of : {T : Type 0} → Entry T → Area × T
content_of e = (box_of e.bounds, item_of e)

-- an entry has its item's area
abbrev pub IsEntry : {T : Type 0} → (T → Plot) → Entry T → Type 0
IsEntry plot e = box_of e.bounds ≡ (plot (item_of e)).area

-- the entries of a square are exactly those of all items that it holds itself, in the order of the items
pub record HoldsOwn {T : Type 0} (plot : T → Plot) (all : List T) (level : ℕ) (west south : ℤ) (entries : List (Entry T)) : Type 0 where
  pub boxes : All (λ e. IsEntry plot e) entries
  pub items : map item_of entries ≡ filter (λ i. in_cell level west south (plot i)) all

-- neither the square nor a part of it holds an item of a level below this one
abbrev pub HoldsNone : {T : Type 0} → (T → Plot) → List T → ℕ → ℕ → ℤ → ℤ → Type 0
HoldsNone plot items below level west south = All (λ i. in_below below level west south (plot i) ≡ false) items

-- of the items of levels below `n`, the square of level `k` and each part of it hold exactly those that belong there. For a whole square
-- `n` is the level above its own; for the parts of a square with a list of its own items, which stands apart from them, `n` is its own level
abbrev pub Holds : {T : Type 0} → (T → Plot) → List T → ℕ → ℕ → ℤ → ℤ → Part T → Type 0
Holds plot items n k w s Bare = HoldsNone plot items n k w s
Holds plot items n k w s (Quartered' p sw q se r nw t ne) =
    (k < n → HoldsOwn plot items k w s [])
    × (0 < k → Holds plot items (k - 1 + 1) (k - 1) w s sw × Holds plot items (k - 1 + 1) (k - 1) (w +ℤ pos (side_of (k - 1))) s se
    × Holds plot items (k - 1 + 1) (k - 1) w (s +ℤ pos (side_of (k - 1))) nw × Holds plot items (k - 1 + 1) (k - 1) (w +ℤ pos (side_of (k - 1))) (s +ℤ pos (side_of (k - 1))) ne)
Holds plot items n k w s (Own' entries p rest) = (k < n) × HoldsOwn plot items k w s entries.items × Holds plot items k k w s rest

-- the same for a square of the code and each part of it
abbrev pub PartHolds : {T : Type 0} → (T → Plot) → List T → Square → Part T → Type 0
PartHolds plot items square part = Holds plot items (square.level + 1) square.level square.west square.south part

-- for its parts alone
abbrev pub RestHolds : {T : Type 0} → (T → Plot) → List T → Square → Part T → Type 0
RestHolds plot items square part = Holds plot items square.level square.level square.west square.south part

-- for its quarters
abbrev pub QuartersHold : {T : Type 0} → (T → Plot) → List T → Square → Quarters T → Type 0
QuartersHold plot items square q =
    let k = square.level in
    let w = square.west in
    let s = square.south in
    0 < k → Holds plot items (k - 1 + 1) (k - 1) w s (arc_value q.south_west) × Holds plot items (k - 1 + 1) (k - 1) (w +ℤ pos (side_of (k - 1))) s (arc_value q.south_east)
    × Holds plot items (k - 1 + 1) (k - 1) w (s +ℤ pos (side_of (k - 1))) (arc_value q.north_west) × Holds plot items (k - 1 + 1) (k - 1) (w +ℤ pos (side_of (k - 1))) (s +ℤ pos (side_of (k - 1))) (arc_value q.north_east)

-- and for itself, whose own items are these
abbrev pub OwnHolds : {T : Type 0} → (T → Plot) → List T → Square → List (Entry T) → Type 0
OwnHolds plot items square entries = HoldsOwn plot items square.level square.west square.south entries

-- the four quarters have these contents
pub record AreAll {T : Type 0} (part : Part T) (q : Quarters T) : Type 0 where
  pub south_west : arc_value q.south_west ≡ part
  pub south_east : arc_value q.south_east ≡ part
  pub north_west : arc_value q.north_west ≡ part
  pub north_east : arc_value q.north_east ≡ part

-- the square, for which there may be no node, and its parts hold exactly the items
abbrev pub SomeHolds : {T : Type 0} → (T → Plot) → List T → ℕ → ℤ → ℤ → Option (Part T) → Type 0
SomeHolds plot items k w s None = HoldsNone plot items (k + 1) k w s
SomeHolds plot items k w s (Some part) = Holds plot items (k + 1) k w s part

-- the square of the whole plane and its parts hold exactly the items
abbrev pub RootHolds : {T : Type 0} → (T → Plot) → List T → Option (Part T) → Type 0
RootHolds plot items root = SomeHolds plot items TOP_LEVEL (neg_ℤ PLANE_LIMIT) (neg_ℤ PLANE_LIMIT) root
