use Rattle.std.proofs.Common.{List, ◌++◌, take}
use Rattle.std.specs.List.{flat_map}
use Rattle.airfield_findings.specs.Entries.{of_runway}
use Rattle.finding_lists.specs.declared.finding.Finding.{Finding}
use Rattle.airfield_findings.proofs.standards.put_strips.Given as goal

-- the entries of the runways so far
abbrev pub invariant-loop-strip : goal.invariant-loop-strip
invariant-loop-strip g l =
    (list : List Finding) → g.C.Collector.taken l.fn.out list → g.C.Collector.taken l.out (list ++ flat_map (of_runway l.field l.at l.top l.cap) (take l.strip-index l.strips))
