-- The items listed by the parts of a tree.
use Rattle.std.specs.Prelude.{◌≡◌, ◌+◌, List, [], ◌∷◌, ◌++◌, length}
use Rattle.std.specs.Arc.{arc_value}
use Rattle.ordered_tree.specs.declared.branch.Branch.{Branch}
use Rattle.ordered_tree.specs.declared.branch.Fork.{Fork}
use Rattle.ordered_tree.specs.declared.branch.Branch.TheVariants.{Leaf, Fork'}

-- the items of a part, in order
abbrev pub items_of : {T : Type 0} → Branch T → List T
items_of Leaf = []
items_of (Fork' p item below above height count) = items_of below ++ arc_value item ∷ items_of above

-- the items of a fork, in order
abbrev pub items_of_fork : {T : Type 0} → Fork T → List T
items_of_fork f = items_of f.below ++ arc_value f.item ∷ items_of f.above

-- each fork in the part stores the right count of its items
abbrev pub IsCounted : {T : Type 0} → Branch T → Type 0
IsCounted Leaf = Unit {0}
IsCounted (Fork' p item below above height count) = (count ≡ length (items_of below) + 1 + length (items_of above)) × IsCounted below × IsCounted above

-- the same for a fork
abbrev pub IsCountedIn : {T : Type 0} → Fork T → Type 0
IsCountedIn f = (f.count ≡ length (items_of f.below) + 1 + length (items_of f.above)) × IsCounted f.below × IsCounted f.above
