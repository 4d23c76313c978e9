use Rattle.std.proofs.Common.{◌≡◌, take}
use Rattle.std.specs.List.{flat_map}
use Rattle.horizontal_hull.specs.Arcs.{arcs_of_runway}
use Rattle.horizontal_hull.proofs.arcs.arcs_about.Given as goal

abbrev pub invariant-loop-runway : goal.invariant-loop-runway
invariant-loop-runway l = l.arcs.items ≡ flat_map arcs_of_runway (take l.runway-index l.runways)
