use Rattle.std.proofs.Common.{◌≡◌, take}
use Rattle.airfield_findings.proofs.strips.strips_of.Given as goal

abbrev pub invariant-loop-runway : goal.invariant-loop-runway
invariant-loop-runway l = l.strips.items ≡ take l.runway-index l.runways
