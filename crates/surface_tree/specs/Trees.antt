-- The invariant of a tree.
use Rattle.std.specs.Prelude.{List, Option}
use Rattle.std.specs.List.{All}
use Rattle.std.specs.declared.cmp.Ordering.{Ordering}
use Rattle.ordered_list.specs.Ordered.{Rises}
use Rattle.surface_tree.specs.declared.part.Part.{Part}
use Rattle.surface_tree.specs.declared.placed.Plot.{Plot}
use Rattle.surface_tree.specs.Levels.{IsPlaced}
use Rattle.surface_tree.specs.Parts.{RootHolds}

-- the items rise by their keys, each has a plot in the plane, and the squares hold exactly them
pub record IsTree {T K : Type 0} (cmp : K → K → Ordering) (key : T → K) (plot : T → Plot) (root : Option (Part T)) (items : List T) : Type 0 where
  pub rises : Rises cmp key items
  pub placed : All (λ i. IsPlaced (plot i)) items
  pub holds : RootHolds plot items root
