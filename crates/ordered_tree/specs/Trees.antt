-- The invariant of a tree.
use Rattle.std.specs.declared.cmp.Ordering.{Ordering}
use Rattle.ordered_list.specs.Ordered.{Rises}
use Rattle.ordered_tree.specs.declared.branch.Branch.{Branch}
use Rattle.ordered_tree.specs.Branches.{IsCounted, items_of}

-- the items rise by their keys, and each fork stores the right count
pub record IsTree {T K : Type 0} (cmp : K → K → Ordering) (key : T → K) (root : Branch T) : Type 0 where
  pub rises : Rises cmp key (items_of root)
  pub counted : IsCounted root
