use Rattle.std.proofs.Common.{List, ◌∷◌, take}
use Rattle.std.specs.List.{All}
use Rattle.grid_exact.specs.declared.area.Area.{Area}
use Rattle.outline_boxes.specs.Boxes.{Encloses, IsLeastBox}
use Rattle.airfield_findings.specs.Areas.{AreRunwayAreas}
use Rattle.airfield_findings.specs.Reaches.{IsRunwayReach}
use Rattle.airfield_findings.proofs.reach.strips_area.Given as goal

abbrev pub invariant-loop-strip : goal.invariant-loop-strip
invariant-loop-strip l = record {
  runways : All (λ r. IsRunwayReach l.hull r l.all) (take l.strip-index l.strips);
  listed : (areas : List Area) × AreRunwayAreas l.hull (take l.strip-index l.strips) areas × IsLeastBox (λ b. All (λ a. Encloses b a) (l.hull ∷ areas)) l.all;
}
