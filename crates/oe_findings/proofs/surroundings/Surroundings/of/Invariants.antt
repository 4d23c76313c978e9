use Rattle.std.proofs.Common.{◌≡◌, map, take}
use Rattle.airfield_findings.specs.Prepared.{airfield_of}
use Rattle.oe_findings.proofs.surroundings.Surroundings.of.Given as goal

abbrev pub invariant-loop-i : goal.invariant-loop-i
invariant-loop-i l = map airfield_of l.tree ≡ take l.i l.register
