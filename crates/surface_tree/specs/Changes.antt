-- The items after a change.
use Rattle.std.specs.Prelude.{◌≡◌, ◌≤ℤ◌, List, Option, Some, None}
use Rattle.std.specs.List.{All}
use Rattle.std.specs.declared.cmp.Ordering.{Ordering}
use Rattle.std.specs.declared.cmp.Ordering.TheVariants.{Equal}
use Rattle.ordered_list.specs.Ordered.{found_by, put_by, removed_by, Rises}
use Rattle.surface_tree.specs.declared.placed.Plot.{Plot}

-- the items with this one under its key, or without the one under the key
abbrev pub edited_by : {T K : Type 0} → (K → K → Ordering) → (T → K) → K → Option T → List T → List T
edited_by cmp key k None items = removed_by cmp key k items
edited_by cmp key k (Some x) items = put_by cmp key x items

-- the item that is put, if any, has the key and the plot
abbrev pub IsFor : {T K : Type 0} → (T → K) → (T → Plot) → K → Plot → Option T → Type 0
IsFor key plot k a None = Unit {0}
IsFor key plot k a (Some x) = (key x ≡ k) × (plot x ≡ a)

-- an area lies in another one, and squares of the same size hold both: so each square that holds the inner one holds the outer one too
pub record LiesIn (inner outer : Plot) : Type 0 where
  pub level : inner.level ≡ outer.level
  pub west : outer.area.x0 ≤ℤ inner.area.x0
  pub east : inner.area.x1 ≤ℤ outer.area.x1
  pub south : outer.area.y0 ≤ℤ inner.area.y0
  pub north : inner.area.y1 ≤ℤ outer.area.y1

-- the change fits the items: they rise, and the plot of an item under the key lies in the given plot
pub record Fits {T K : Type 0} (cmp : K → K → Ordering) (key : T → K) (plot : T → Plot) (k : K) (a : Plot) (item : Option T) (items : List T) : Type 0 where
  pub rises : Rises cmp key items
  pub covered : All (λ i. cmp k (key i) ≡ Equal → LiesIn (plot i) a) items
  pub is_for : IsFor key plot k a item

-- where Before holds of the items that the change fits, After holds of the changed items
abbrev pub Follows : {T K : Type 0} → (K → K → Ordering) → (T → K) → (T → Plot) → K → Plot → Option T → (List T → Type 0) → (List T → Type 0) → Type 0
Follows {T} cmp key plot k a item Before After = (items : List T) → Fits cmp key plot k a item items → Before items → After (edited_by cmp key k item items)

-- the items rise, and this is the one under the key, if any
abbrev pub IsFound : {T K : Type 0} → (K → K → Ordering) → (T → K) → K → Option T → List T → Type 0
IsFound cmp key k old items = Rises cmp key items × (old ≡ found_by cmp key k items)
