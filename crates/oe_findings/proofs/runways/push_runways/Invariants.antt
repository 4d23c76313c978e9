use Rattle.std.proofs.Common.{◌≡◌, ◌++◌, List, take}
use Rattle.grid_exact.specs.declared.area.Area.{Area}
use Rattle.airfield_findings.specs.Areas.{AreRunwayAreas}
use Rattle.oe_findings.specs.Outside.{LeavesRunwaysOut}
use Rattle.oe_findings.proofs.runways.push_runways.Given as goal

abbrev pub invariant-loop-runway : goal.invariant-loop-runway
invariant-loop-runway l = (more : List Area) × AreRunwayAreas l.hull (take l.runway-index l.runways) more × LeavesRunwaysOut l.hull (take l.runway-index l.runways) more × (l.areas.items ≡ l.initial.areas.items ++ more)
