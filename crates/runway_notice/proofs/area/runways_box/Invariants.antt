use Rattle.runway_notice.proofs.AreaFacts.{IsLeastSoFar}
use Rattle.runway_notice.proofs.area.runways_box.Given as goal

abbrev pub invariant-loop-runway : goal.invariant-loop-runway
invariant-loop-runway l = IsLeastSoFar l.radius l.runways l.runway-index l.least
