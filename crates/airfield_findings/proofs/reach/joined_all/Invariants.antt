use Rattle.std.proofs.Common.{take}
use Rattle.std.specs.List.{All}
use Rattle.grid_exact.specs.declared.area.Area.{Area}
use Rattle.outline_boxes.specs.Boxes.{Encloses}
use Rattle.airfield_findings.proofs.reach.joined_all.Given as goal

abbrev pub invariant-loop-area : goal.invariant-loop-area
invariant-loop-area l = record {
  holds : All (λ a. Encloses l.all a) (take l.area-index l.areas);
  least : (b : Area) → All (λ a. Encloses b a) l.areas → Encloses b l.all;
}
